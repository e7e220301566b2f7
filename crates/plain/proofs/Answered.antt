-- The answer of walk. A board value that breaks a rule gets 19, a short list 9, too many duties 22; else
-- every order is walked: it is green where no failing order is found.
use mathlib.Core.Path.{◌≡◌, refl, sym, ap, ◌∙◌}
use mathlib.Core.Logic.{◌⊎◌, inl, inr}
use mathlib.Core.Bool.{true}
use Rattle.std.specs.Prelude.{Option, None, Some}
use Rattle.std.proofs.lemmas.Option.{same_Some, none-some}
use mathlib.Core.List.{List}
use Prim.Native.Nat.{ℕ, ◌+◌, ◌≤◌}
use native.Mathlib.Omega.{arith}
use lib.ListN.{length}
use Rattle.orders.specs.Orders.{Pool, Failing}
use Rattle.orders.proofs.Lengths.{failing_length}
use Rattle.orders.proofs.Plain.{none→green, some→failing}
use Rattle.orders.proofs.Tests.{clash}
use Rattle.board.specs.declared.Board.{Board}
use Rattle.board.specs.declared.Duty.{Duty}
use Rattle.board.specs.Answers.{Answers, plain_answer, red_answer}
use Rattle.board.specs.Filler.{Sized}
use Rattle.board.specs.Good.{good}
use Rattle.board.specs.Green.{Green, FailingOrder, Red, world_of}
use Rattle.board.specs.Limits.{max_duties}
use Rattle.board.specs.Numbers as answer
use Rattle.board.specs.Permitted.{held_in}
use Rattle.board.specs.View.{View, view}
use Rattle.board.proofs.GoodLaws.{good→records}
use Rattle.board.proofs.GreenLaws.{red_not_green}
use Rattle.board.proofs.PoolLaws.{duties_pool}
use Rattle.plain.specs.Walks.{most, first_failing_of, serials, walk_checks, Walks}
use Rattle.plain.specs.Walking.{walked, told}
use Rattle.plain.proofs.Found.{first_found_lem}
use Rattle.plain.proofs.Written.{written_first}

module _ (b : Board) (before : List ℕ) where
  -- an answer other than 8
  refused :
      (number : ℕ) → (number ≡ answer.red → ⊥) → Answers (walk_checks b (length before)) number
      → Walks b before before (plain_answer number)
  refused number other a =
      record {
        number = a;
        serial = refl;
        red = λ e. absurd (other e);
        otherwise = λ e. (refl, refl);
      }

  module _ (whole : good b ≡ true) where
    module _ (size : Sized b) (room : max_duties ≤ length before) where
      abbrev v : View
      v = view b

      abbrev n : ℕ
      n = length v.duties

      module _ (few : n ≤ most) where
        passed :
            (number : ℕ) → (Red v × (number ≡ answer.red)) ⊎ ((Red v → ⊥) × (number ≡ answer.done))
            → Answers (walk_checks b (length before)) number
        passed number a =
            inr (
              λ e. clash whole e,
              inr (λ e. omega arith, inr (λ h. omega arith, a)),
            )

        pool_right : Pool (world_of v) v.duties
        pool_right = duties_pool v (good→records b whole)

        -- what is found is a failing order
        is_failing :
            (order : List Duty) → first_failing_of v ≡ Some order
            → Failing (world_of v) (held_in v.holdings) v.duties order
        is_failing order e =
            some→failing (world_of v) (length v.duties) (held_in v.holdings) v.duties pool_right order
            e

        fails : (order : List Duty) → first_failing_of v ≡ Some order → FailingOrder v (serials order)
        fails order e = record { list = order; named = refl; failing = is_failing order e }

        module _ (after : List ℕ) (r : Option ℕ) (is : (r, after) ≡ told 0 before (walked n b)) where
          found_is : (r, after) ≡ told 0 before (first_failing_of v)
          found_is = is ∙ ap (told 0 before) (first_found_lem b size whole n refl)

          pub walked_green : r ≡ None → Walks b before after (plain_answer answer.done)
          walked_green nothing = go (first_failing_of v) refl found_is
            where
              go : (o : Option (List Duty)) → first_failing_of v ≡ o → (r, after) ≡ told 0 before o
                  → Walks b before after (plain_answer answer.done)
              go None e same =
                  let green : Green v =
                  none→green (world_of v) (length v.duties) (held_in v.holdings) v.duties pool_right
                  (omega arith) e in
                  let kept : after ≡ before = ap (λ (p : Option ℕ × List ℕ). p.1) same in
                  rw kept
                  (refused answer.done (λ e. omega arith)
                  (passed answer.done (inr (λ red. red_not_green v red green, refl))))
              go (Some order) e same =
                  absurd (none-some _ (sym nothing ∙ ap (λ (p : Option ℕ × List ℕ). p.0) same))

          pub walked_red : (n : ℕ) → r ≡ Some n → Walks b before after (red_answer n)
          walked_red n something = go (first_failing_of v) refl found_is
            where
              go : (o : Option (List Duty)) → first_failing_of v ≡ o → (r, after) ≡ told 0 before o
                  → Walks b before after (red_answer n)
              go None e same =
                  absurd (none-some _ (sym (ap (λ (p : Option ℕ × List ℕ). p.0) same) ∙ something))
              go (Some order) e same =
                  let long : n ≡ 0 + length order =
                  same_Some _ _ (sym something ∙ ap (λ (p : Option ℕ × List ℕ). p.0) same) in
                  let no_longer =
                  failing_length (world_of v) v.duties pool_right _ order (is_failing order e) in
                  let fits : length order ≤ length before = omega arith in
                  record {
                    number = passed answer.red (inl ((serials order, fails order e), refl));
                    serial = refl;
                    red = λ q.
                        record {
                          order = order;
                          found = e;
                          counted = omega arith;
                          list = ap (λ (p : Option ℕ × List ℕ). p.1) same ∙ written_first order before fits;
                        };
                    otherwise = λ q. absurd (q refl);
                  }
