-- `key_place` is right: the place is not before low, and at most so many places beyond it as are left; a turn
-- halves what is left.
use Rattle.std.proofs.Common.{refl, ◌+◌, ◌-◌, ◌/◌, arith}
use Rattle.asks.proofs.Halving.{starts, turns, ends}
use Rattle.asks.proofs.key_place.Goals as goal

pub loop-left-init : goal.loop-left-init
loop-left-init c = starts

pub loop-left-preserved : goal.loop-left-preserved
loop-left-preserved c =
    let next = c.loop-left.low + (c.loop-left.left - c.loop-left.left / 2) - 1 in
    let fits = c.type_inv.keys next in
    let sought_fits = c.ranges.sought.fits in
    turns _ _ c.loop-left.invariant (omega arith) (omega arith) (omega arith) (omega arith) refl
    (λ h. omega arith) (λ h. omega arith)

pub returns : goal.returns
returns c = ends c.loop-left.invariant c.loop-left-test.false refl
