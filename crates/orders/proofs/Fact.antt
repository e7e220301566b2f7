-- Document 01's fact, in one place: a board is red exactly if some duty has no permission or rule, or some
-- holding that it needs can be wrong before it; and red exactly if it has a failing order. It holds for any
-- rule of wholly before that is a strict order on the open duties, and a test decides it.
use mathlib.Core.Path.{◌≡◌}
use mathlib.Core.Logic.{◌↔◌, ◌⊎◌, inl, inr}
use mathlib.Core.Bool.{true, false}
use mathlib.Core.List.{List}
use Rattle.orders.specs.Orders.{Pool, Green, Failing, run}
use Rattle.orders.specs.Beginnings.{GetsStuck}
use Rattle.orders.specs.Needs.{Duties, Holdings, world, met}
use Rattle.orders.specs.Criterion.{Red, is_red}
use Rattle.orders.proofs.Tests.{by_test, clash, is_true, is_false}
use Rattle.orders.proofs.Failing.{failing_not_green, stuck→failing, failing→stuck}
use Rattle.orders.proofs.Criterion.{stuck→red, red→stuck}
use Rattle.orders.proofs.Decide.{is_red↔red}

-- some list is a failing order
abbrev pub HasFailing : (D : Duties) → Holdings D → List D.Duty → Type 0
HasFailing D s pool = (list : List D.Duty) × Failing (world D) s pool list

pub record Fact (D : Duties) (s : Holdings D) (pool : List D.Duty) : Type 0 where
  -- green exactly if the criterion does not say red
  pub green : Green (world D) s pool ↔ (¬ Red D s pool)
  -- red exactly if there is a failing order
  pub red : Red D s pool ↔ HasFailing D s pool
  -- a test decides it
  pub decided : Green (world D) s pool ↔ (is_red D s pool ≡ false)
  -- green or a failing order, and never both
  pub either : Green (world D) s pool ⊎ HasFailing D s pool
  pub exclusive : Green (world D) s pool → ¬ HasFailing D s pool

module _ (D : Duties) (s : Holdings D) (pool : List D.Duty) (P : Pool (world D) pool) where
  red→failing : Red D s pool → HasFailing D s pool
  red→failing r = stuck→failing (world D) s pool (red→stuck D s pool P r)

  failing→red : HasFailing D s pool → Red D s pool
  failing→red (list, f) = stuck→red D s pool P (failing→stuck (world D) s pool list f)

  green→no_failing : Green (world D) s pool → ¬ HasFailing D s pool
  green→no_failing g (list, f) = failing_not_green (world D) s pool list f g

  not_red→green : (¬ Red D s pool) → Green (world D) s pool
  not_red→green n order o earlier d later e =
      is_true _ (λ f. n (stuck→red D s pool P (gets_stuck f)))
    where
      gets_stuck : met (run (world D) s earlier) (D.asks d) ≡ false → GetsStuck (world D) s pool
      gets_stuck f =
          record { earlier = earlier; d = d; later = later; order = rw e at o; stuck = f }

  -- where the test says no, the criterion does not say red
  false→green : is_red D s pool ≡ false → Green (world D) s pool
  false→green e = not_red→green (λ r. clash ((is_red↔red D s pool).1 r) e)

  true→failing : is_red D s pool ≡ true → HasFailing D s pool
  true→failing e = red→failing ((is_red↔red D s pool).0 e)

  pub fact : Fact D s pool
  fact =
      record {
        green = (λ g r. green→no_failing g (red→failing r), not_red→green);
        red = (red→failing, failing→red);
        decided = (λ g. is_false (is_red D s pool) (λ e. green→no_failing g (true→failing e)), false→green);
        either = by_test (is_red D s pool) (λ e. inr (true→failing e)) (λ e. inl (false→green e));
        exclusive = green→no_failing;
      }
