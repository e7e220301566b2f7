-- Green and red boards, for every board that keeps the rules of the file: document 01's fact; green exactly
-- if not red; Definition 4 as printed; an allowed order exists; an empty pool is green.
use mathlib.Core.Path.{◌≡◌, refl, sym, ap, ◌∙◌}
use mathlib.Core.Logic.{◌↔◌, ◌⊎◌, inl, inr, ⊎_elim}
use mathlib.Core.Bool.{true}
use mathlib.Core.List.{List, [], ◌∷◌, map}
use Prim.Native.Nat.{ℕ, ◌+◌}
use native.Mathlib.Omega.{arith}
use lib.ListN.{length, length-map, length-append}
use Rattle.orders.specs.Orders.{Order}
use Rattle.orders.proofs.Build.{sort, sort_order}
use Rattle.orders.proofs.Fact.{Fact, fact}
use Rattle.orders.proofs.Failing.{failing_not_green}
use Rattle.orders.proofs.Lists.{mid}
use Rattle.orders.proofs.Tests.{clash}
use Rattle.board.specs.declared.Duty.{Duty}
use Rattle.board.specs.Good.{records_fit}
use Rattle.board.specs.Green.{Green, Definition4, FailingOrder, Red, duties_of, world_of}
use Rattle.board.specs.Permitted.{held_in}
use Rattle.board.specs.View.{View}
use Rattle.board.proofs.PoolLaws.{duties_pool}

-- ---- failing orders

-- a failing order has a last duty
pub not_empty : (v : View) (order : List ℕ) → FailingOrder v order → length order ≡ 0 → ⊥
not_empty v order f e = omega (arith, counted)
  where
    counted : length order ≡ length f.failing.earlier + 1
    counted =
        sym (ap length f.named) ∙ length-map f.list _ ∙ ap length f.failing.is
        ∙ length-append f.failing.earlier (f.failing.last ∷ [])

-- a red board is not green
pub red_not_green : (v : View) → Red v → Green v → ⊥
red_not_green v (order, f) g =
    failing_not_green (world_of v) (held_in v.holdings) v.duties f.list f.failing g

-- ---- an empty pool is green

pub empty_green : (v : View) → v.duties ≡ [] → Green v
empty_green v e order o earlier next later is = elim (rw e at (o.only next (rw is (mid earlier later)))) [ ]

-- ---- boards that keep the rules

module _ (v : View) (fit : records_fit v ≡ true) where
  -- document 01's fact: a board is red exactly if some duty has no permission or rule, or some holding that
  -- it needs can be wrong before it
  pub board_fact : Fact (duties_of v) (held_in v.holdings) v.duties
  board_fact = fact (duties_of v) (held_in v.holdings) v.duties (duties_pool v fit)

  -- green or red
  pub green_or_red : Green v ⊎ Red v
  green_or_red =
      ⊎_elim
      inl
      (λ (list, f). inr (map (world_of v).serial list, record { list = list; named = refl; failing = f }))
      board_fact.either

  -- green exactly if not red
  pub green_not_red : (Red v → ⊥) → Green v
  green_not_red n = ⊎_elim (λ g. g) (λ r. absurd (n r)) green_or_red

  -- Definition 4 as printed, with its authorised prefixes, says the same
  pub definition_4 : Green v ↔ Definition4 v
  definition_4 = (
    λ g order o earlier next later e p. g order o earlier next later e,
    λ d. green_not_red (λ (order, f). let g = f.failing in
        clash (d _ g.order g.earlier g.last g.later refl g.done) g.stuck),
  )

  -- an allowed order exists
  pub some_order : (order : List Duty) × Order (world_of v) v.duties order
  some_order = (sort (world_of v) v.duties, sort_order (world_of v) v.duties (duties_pool v fit))
