-- How long lists of duties can get: an order is a permutation of the open duties, so it is as long as the
-- pool, and a failing order, which begins one, is no longer.
use mathlib.Core.Path.{◌≡◌}
use mathlib.Core.List.{List, ◌∷◌, ◌++◌}
use Prim.Native.Nat.{◌≤◌}
use native.Mathlib.Omega.{arith}
use lib.ListN.{length, length-append}
use Rattle.orders.specs.Orders.{World, Order, Pool, Failing}
use Rattle.orders.proofs.Walks.{perm_length, order↔permutation}

module _ (W : World) (pool : List W.Duty) (P : Pool W pool) where
  open W use {Duty, State}

  pub order_length : (order : List Duty) → Order W pool order → length order ≡ length pool
  order_length order o = perm_length ((order↔permutation W pool order P).0 o).0

  pub failing_length : (s : State) (list : List Duty) → Failing W s pool list → length list ≤ length pool
  failing_length s list f =
      let h = simp length-append at (order_length (f.earlier ++ (f.last ∷ f.later)) f.order) in
      rw (f.is, length-append) (omega arith)
