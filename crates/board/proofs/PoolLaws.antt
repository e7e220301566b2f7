-- The duties of a board that keeps the rules of the file are a pool of the theory: no serial stands twice,
-- since they rise by serial; and wholly before is a strict order, since no start is after its end.
use mathlib.Core.Path.{◌≡◌, refl}
use mathlib.Core.Bool.{true}
use Prim.Native.Nat.{◌<◌}
use native.Mathlib.Omega.{arith}
use Rattle.orders.specs.Lists.{Mem}
use Rattle.orders.specs.Orders.{Distinct, Pool}
use Rattle.orders.specs.Clock.{Window}
use Rattle.orders.proofs.Lists.{pairwise_map}
use Rattle.orders.proofs.Clock.{windows_pool, window₁}
use Rattle.board.specs.declared.Duty.{Duty}
use Rattle.board.specs.View.{View}
use Rattle.board.specs.Good.{records_fit}
use Rattle.board.specs.Green.{world_of}
use Rattle.board.proofs.GoodLaws.{records→range}

module _ (v : View) (fit : records_fit v ≡ true) where
  distinct : Distinct (world_of v) v.duties
  distinct =
      pairwise_map
      (λ d e. d.serial.0 < e.serial.0)
      _
      (λ d e h q. omega arith)
      v.duties
      (records→range v fit).duties.rise

  -- the last minute of a duty is its end
  pub duty_window : (d : Duty) → Mem d v.duties → Window (world_of v) (λ d. d.start) (λ d. d.end) d
  duty_window d m =
      window₁
      (world_of v)
      (λ d. d.start)
      (λ d. d.end)
      d
      ((records→range v fit).duties.each d m).window
      (λ c. refl)

  pub duties_pool : Pool (world_of v) v.duties
  duties_pool = windows_pool (world_of v) (λ d. d.start) (λ d. d.end) v.duties distinct duty_window
