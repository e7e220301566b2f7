-- `key_place` is right: the place is not before low, and at most so many places beyond it as are left; a turn
-- halves what is left.
use Rattle.std.proofs.Common.{length}
use Rattle.asks.proofs.Halving.{Between}
use Rattle.asks.proofs.key_place.Given as goal

abbrev pub invariant-loop-left : goal.invariant-loop-left
invariant-loop-left l = Between l.keys (length l.keys) l.sought l.low l.left

abbrev pub decreases-loop-left : goal.decreases-loop-left
decreases-loop-left l = l.left
