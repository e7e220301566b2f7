-- What walk promises. The order that it tells is a true failing order, and of all failing orders of the board
-- the least by serials. And the promise settles the outcome whole, the order included: two outcomes that keep
-- it are one.
use mathlib.Core.Path.{◌≡◌, refl, sym, ap, ◌∙◌}
use mathlib.Core.Logic.{inl, inr}
use mathlib.Core.Bool.{true}
use Rattle.std.specs.Prelude.{Some}
use Rattle.std.proofs.lemmas.Option.{same_Some}
use mathlib.Core.List.{List, ◌++◌}
use Prim.Native.Nat.{ℕ}
use native.Mathlib.Omega.{arith}
use lib.ListN.{length, drop, length-map}
use Rattle.orders.specs.Plain.{ComesFirst}
use Rattle.orders.proofs.Plain.{some→failing, first_least}
use Rattle.orders.proofs.Tests.{is_true}
use Rattle.board.specs.declared.Answer.{Answer}
use Rattle.board.specs.declared.Board.{Board}
use Rattle.board.specs.declared.Duty.{Duty}
use Rattle.board.specs.Answers.{Answers}
use Rattle.board.specs.Good.{good}
use Rattle.board.specs.Green.{FailingOrder, world_of}
use Rattle.board.specs.Numbers as answer
use Rattle.board.specs.Permitted.{held_in}
use Rattle.board.specs.Told.{OrderTold, Told}
use Rattle.board.specs.View.{View, view}
use Rattle.board.proofs.AnswersLaws.{same_answer}
use Rattle.board.proofs.GoodLaws.{good→records, records→range}
use Rattle.board.proofs.PoolLaws.{duties_pool}
use Rattle.board.proofs.ToldLaws.{same_told}
use Rattle.plain.specs.Walks.{first_failing_of, serials, walk_checks, Walks}

module _ (b : Board) where
  abbrev v : View
  v = view b

  -- 8 is answered for a good board alone
  red_good : (room n : ℕ) → Answers (walk_checks b room) n → n ≡ answer.red → good b ≡ true
  red_good room n (inl (g, e)) q = absurd (omega arith)
  red_good room n (inr (f, a)) q = is_true (good b) f

  module _ (whole : good b ≡ true) (order : List Duty) (found : first_failing_of v ≡ Some order) where
    -- what is found is a true failing order
    pub first_fails : FailingOrder v (serials order)
    first_fails =
        record {
          list = order;
          named = refl;
          failing =
              some→failing (world_of v) (length v.duties) (held_in v.holdings) v.duties
              (duties_pool v (good→records b whole)) order found;
        }

    -- and no failing order of the board comes before it
    pub first_lowest : (other : List ℕ) → FailingOrder v other → ComesFirst other (serials order) → ⊥
    first_lowest other f lower =
        first_least (world_of v) (length v.duties) (held_in v.holdings) v.duties
        (duties_pool v (good→records b whole)) (records→range v (good→records b whole)).duties.rise
        (omega arith) order found f.list f.failing (rw f.named lower)

  module _ (before after : List ℕ) (r : Answer) (w : Walks b before after r) where
    -- with 8, the failing order that is told
    order_told : r.number ≡ answer.red → OrderTold v before after r.length
    order_told e =
        let t = w.red e in
        let whole = red_good (length before) r.number w.number e in
        let long = length-map t.order (λ (d : Duty). d.serial.0) in
        record {
          order = serials t.order;
          failing = first_fails whole t.order t.found;
          counted = t.counted ∙ sym long;
          list = t.list ∙ ap (λ (k : ℕ). serials t.order ++ drop k before) (sym long);
        }

    -- it tells of a failing order as every call does
    pub walk_told : Told v before after r
    walk_told = record { red = order_told; otherwise = w.otherwise }

pub same_walk :
    (b : Board) (before after after' : List ℕ) (r r' : Answer) → Walks b before after r
    → Walks b before after' r' → (r ≡ r') × (after ≡ after')
unfolding walk_told order_told
same_walk b before after after' r r' p q =
    same_told (view b) before after after' r r'
    (same_answer (walk_checks b (length before)) r.number r'.number p.number q.number)
    (p.serial ∙ sym q.serial) (walk_told b before after r p) (walk_told b before after' r' q)
    (λ e e'. ap serials (same_Some _ _ (sym (p.red e).found ∙ (q.red e').found)))
