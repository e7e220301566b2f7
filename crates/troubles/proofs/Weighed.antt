-- The loop of `weigh`: none of the first k setters makes a need of d wrong, and `reach` is what they can make
-- of the sets. A setter stands for a duty of the list, and its mend for that duty's earliest.
use mathlib.Core.Path.{◌≡◌, refl, sym, ap, ◌∙◌}
use mathlib.Core.Bool.{Bool, true, false}
use mathlib.Core.List.{List, map}
use Rattle.std.specs.Prelude.{Some, Ok, Err}
use Prim.Native.Nat.{ℕ, ◌+◌, ◌≤◌, ◌<◌}
use native.Mathlib.Omega.{arith}
use lib.ListN.{length, take, get_or}
use lib.Seq.{take_all}
use Rattle.orders.specs.Lists.{any}
use Rattle.orders.proofs.Loops.{take_mem, none_next}
use Rattle.asks.specs.declared.Ask.{Ask}
use Rattle.board.specs.declared.Duty.{Duty}
use Rattle.board.specs.Filler.{no_duty}
use Rattle.board.specs.Limits.{max_duties}
use Rattle.troubles.specs.declared.pairs.Reach.{Reach}
use Rattle.troubles.specs.declared.setting.Setter.{Setter}
use Rattle.troubles.specs.Reaching.{reach_with, reach_of}
use Rattle.troubles.specs.Setting.{setter_of, user_of}
use Rattle.troubles.specs.Weighing.{Weighed}
use Rattle.quick_criterion.specs.Mends.{last_minute, first_mend}
use Rattle.quick_criterion.specs.Tests.{makes_wrong}
use Rattle.troubles.proofs.AllMends.{at_place, many, setter_at, mend_in}
use Rattle.troubles.proofs.Reached.{reach_none, reach_more}
use Rattle.troubles.proofs.Weighing.{concerned, apart_right, not_reached}

pub record SoFar
    (sets : List ℕ) (setters : List Setter) (mends : List ℕ) (d : Duty) (ask : Ask) (reach : Reach) (k : ℕ) : Type 0
  where
    pub is :
        (l ms : List Duty) → setters ≡ map setter_of l → take (length setters) mends ≡ map (mend_in ms) l
        → (reach ≡ reach_of d ask (get_or sets d.doer 0) (get_or sets ask.target 0) (take k l))
        × (any (makes_wrong ms d (Some ask)) (take k l) ≡ false)

-- the users of the setters
module _ (setters : List Setter) (users : List ℕ) (are : take (length setters) users ≡ map (λ x. x.user) setters)
    (long : length users ≡ max_duties) (few : length setters ≤ max_duties) {k : ℕ} (h : k < length setters)
  where
    user_at : (z : Setter) → get_or users k 0 ≡ (get_or setters k z).user
    user_at z = at_place (λ x. x.user) users (length setters) setters are (rw long few) k 0 z h

    pub setter_concerned :
        (doer target : ℕ) (z : Setter) → concerned doer target (get_or users k 0) ≡ true
        → concerned doer target (get_or setters k z).user ≡ true
    setter_concerned doer target z e = rw (user_at z) at e

module _ {sets : List ℕ} {setters : List Setter} {mends : List ℕ} {d : Duty} {ask : Ask} where
  pub starts :
      {own theirs : ℕ} → own ≡ get_or sets d.doer 0 → theirs ≡ get_or sets ask.target 0
      → SoFar sets setters mends d ask (record { own = own; most = theirs; least = theirs }) 0
  starts {own} {theirs} e f =
      record { is = λ l ms is_l are. (rw (← e, ← f) (sym (reach_none d ask own theirs)), refl) }

  -- all of them are weighed
  pub ends :
      {reach : Reach} {k : ℕ} → SoFar sets setters mends d ask reach k → length setters ≤ k
      → (l ms : List Duty) → setters ≡ map setter_of l → take (length setters) mends ≡ map (mend_in ms) l
      → Weighed sets d ask l ms (Ok reach)
  ends {k = k} so_far h l ms is_l are =
      let whole : take k l ≡ l = take_all k l (omega (arith, many l is_l)) in
      rw whole at (so_far.is l ms is_l are)

  -- the setter at place k
  module _ {reach : Reach} {k : ℕ} (so_far : SoFar sets setters mends d ask reach k) (h : k < length setters)
      (few : length setters ≤ max_duties)
    where
      one_more :
          {next : Reach}
          → ((l ms : List Duty) → setters ≡ map setter_of l → take (length setters) mends ≡ map (mend_in ms) l
          → (makes_wrong ms d (Some ask) (get_or l k no_duty) ≡ false)
          × (next ≡ reach_with d ask reach (get_or l k no_duty)))
          → SoFar sets setters mends d ask next (k + 1)
      one_more step =
          record {
            is = λ l ms is_l are.
                let own = get_or sets d.doer 0 in
                let theirs = get_or sets ask.target 0 in
                let inside : k < length l = rw (many l is_l) h in
                let known = so_far.is l ms is_l are in
                let found = step l ms is_l are in (
                  reach_more d ask own theirs l k no_duty inside known.0 found.1,
                  none_next (makes_wrong ms d (Some ask)) l k no_duty inside known.1 found.0,
                );
          }

      -- nothing is asked of its user
      pub next_apart :
          (users : List ℕ) → length users ≡ max_duties
          → take (length setters) users ≡ map (λ x. x.user) setters
          → concerned d.doer ask.target (get_or users k 0) ≡ false → SoFar sets setters mends d ask reach (k + 1)
      next_apart users long are e =
          one_more
          (λ l ms is_l mended.
          let y = get_or l k no_duty in
          let z = setter_of no_duty in
          let is : get_or users k 0 ≡ user_of y.what =
          user_at setters users are long few h z
          ∙ ap (λ (x : Setter). x.user) (setter_at l is_l h z)
          in
          let apart : concerned d.doer ask.target (user_of y.what) ≡ false = rw is at e in
          (apart_right d ask y ms apart, not_reached d ask reach y refl apart))

      -- what the code found of it
      module _ (long : length mends ≡ max_duties) (z : Setter) (wrong : Bool)
          (weighed :
          (y : Duty) (l : List Duty) → get_or setters k z ≡ setter_of y
          → get_or mends k 0 ≡ first_mend y last_minute l → wrong ≡ makes_wrong l d (Some ask) y)
        where
          is_wrong :
              (l ms : List Duty) → setters ≡ map setter_of l → take (length setters) mends ≡ map (mend_in ms) l
              → wrong ≡ makes_wrong ms d (Some ask) (get_or l k no_duty)
          is_wrong l ms is_l are =
              weighed (get_or l k no_duty) ms (setter_at l is_l h z)
              (at_place (mend_in ms) mends (length setters) l are (rw long few) k 0 no_duty h)

          pub next_weighed :
              wrong ≡ false → (next : Reach)
              → ((g : Duty) → get_or setters k z ≡ setter_of g → next ≡ reach_with d ask reach g)
              → SoFar sets setters mends d ask next (k + 1)
          next_weighed e next step =
              one_more
              (λ l ms is_l are. (
                sym (is_wrong l ms is_l are) ∙ e,
                step (get_or l k no_duty) (setter_at l is_l h z),
              ))

          -- the duty that spoils it
          pub spoils :
              wrong ≡ true → (l ms : List Duty) → setters ≡ map setter_of l
              → take (length setters) mends ≡ map (mend_in ms) l
              → Weighed sets d ask l ms (Err (get_or setters k z).serial)
          spoils w l ms is_l are =
              let inside : k < length l = rw (many l is_l) h in
              let whole : take (k + 1 + length l) l ≡ l = take_all (k + 1 + length l) l (omega arith) in
              let open_y = rw whole at (take_mem l (k + 1 + length l) k no_duty (omega arith) inside) in (
                get_or l k no_duty,
                open_y,
                ap (λ (x : Setter). x.serial.0) (setter_at l is_l h z),
                sym (is_wrong l ms is_l are) ∙ w,
              )
