-- `weigh` is right: none of the setters passed makes a need of d wrong, and `reach` is what they can make of
-- the sets.
use Rattle.troubles.proofs.Weighed.{SoFar}
use Rattle.troubles.proofs.weigh.weigh.Given as goal

abbrev pub invariant-loop-k : goal.invariant-loop-k
invariant-loop-k l = SoFar l.holdings l.setters l.mends l.d l.ask l.reach l.k
