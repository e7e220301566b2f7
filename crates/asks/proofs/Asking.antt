-- On a good board both kinds of records rise, so what is found is what is asked; and so for one duty after
-- the other.
use mathlib.Core.Path.{◌≡◌, refl, ◌∙◌, ap}
use mathlib.Core.Bool.{true}
use mathlib.Core.List.{List, map}
use Rattle.std.specs.Prelude.{Option, None, Some}
use Prim.Native.Nat.{ℕ, ◌+◌, ◌≤◌, ◌<◌, min}
use native.Mathlib.Omega.{arith}
use Rattle.std.proofs.lemmas.List.{length-take, take_all}
use lib.Dec.{eqb}
use lib.ListN.{length, get_or, take, set, replicate, length-set, length-replicate}
use lib.Seq.{get_or-set_same, get_or-set_other}
use borrow.Author.Tests.{eqb-true, eqb-false}
use Rattle.orders.proofs.Tests.{by_test}
use Rattle.board.specs.declared.Board.{Board}
use Rattle.board.specs.declared.Duty.{Duty}
use Rattle.board.specs.declared.Rule.{Rule}
use Rattle.board.specs.Filler.{no_duty}
use Rattle.board.specs.Good.{good}
use Rattle.board.specs.Limits.{max_duties}
use Rattle.board.specs.Permitted.{by_rule}
use Rattle.board.specs.View.{view}
use Rattle.board.proofs.GoodLaws.{good→counts, good→records, records→range}
use Rattle.asks.specs.declared.Ask.{Ask}
use Rattle.asks.specs.Asks.{in_one_form, ask_of, AsksOf}
use Rattle.asks.specs.Keys.{Rising}

module _ (b : Board) (g : good b ≡ true) where
  pub permissions_rise : Rising (λ p. p.action) (λ p. p.object) (view b).permissions
  permissions_rise =
      let part = (records→range (view b) (good→records b g)).permissions in
      record { small = λ p m. let range = part.each p m in omega arith; rise = part.rise }

  pub rules_rise : Rising (λ r. r.kind) (λ r. r.role) (view b).rules
  rules_rise =
      let counts = good→counts b g in
      let part = (records→range (view b) (good→records b g)).rules in
      record { small = λ r m. let range = part.each r m in omega arith; rise = part.rise }

-- where there is room for the keys of all records, they are those of all
pub all_keys :
    {A : Type 0} (key : A → ℕ) (l : List A) (keys : List ℕ) {records : List A} {n room many : ℕ}
    → records ≡ take n l → n ≤ room
    → take (min (length records) room) keys ≡ map key (take room records) → many ≡ min (length records) room
    → take many keys ≡ map key (take n l)
all_keys key l keys {records} {n} {room} is few known e =
    rw (e, known, take_all room records (omega (arith, ap length is, length-take n l))) (ap (map key) is)

-- a rule asks the same whoever the doer is
pub whoever :
    (doer target : ℕ) (r : Option Rule)
    → in_one_form target (by_rule target r) ≡ in_one_form doer (by_rule target r)
whoever doer target None = refl
whoever doer target (Some r) = refl

-- ---- one duty after the other

-- the first i duties have what is asked for them
pub record Asked (b : Board) (duties : List Duty) (i : ℕ) (asks : List (Option Ask)) : Type 0 where
  pub long : length asks ≡ max_duties
  pub are : good b ≡ true → AsksOf (view b) duties i asks

module _ {b : Board} {duties : List Duty} where
  pub asked_starts : Asked b duties 0 (replicate {A = Option Ask} max_duties None)
  asked_starts =
      record { long = length-replicate {A = Option Ask} max_duties None; are = λ g j k. absurd (omega arith) }

  pub asked_next :
      {i : ℕ} {asks : List (Option Ask)} {ask : Option Ask} → Asked b duties i asks → i < max_duties
      → (good b ≡ true → ask ≡ ask_of (view b) (get_or duties i no_duty))
      → Asked b duties (i + 1) (set asks i ask)
  asked_next {i} {asks} {ask} known room e =
      let long = known.long in
      record {
        long = length-set asks i ask ∙ known.long;
        are = λ g j k.
            by_test
            (eqb j i)
            (λ t. let s = eqb-true j i t in rw s (get_or-set_same asks i ask None (omega arith) ∙ e g))
            (λ f.
            get_or-set_other asks i j ask None (eqb-false j i f)
            ∙ known.are g j (omega (arith, eqb-false j i f)));
      }
