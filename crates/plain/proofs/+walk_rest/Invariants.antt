-- `walk_rest` ends since one duty fewer is left at each call of itself. The loop's invariant: the duties so
-- far are tried, nothing was found with one of them in front, and the list is as it was.
use Rattle.plain.proofs.Turns.{Tried}
use Rattle.plain.proofs.+walk_rest.Given as goal

-- how many duties are left
abbrev pub decreases-walk_rest : goal.decreases-walk_rest
decreases-walk_rest l = l.left

abbrev pub invariant-loop-d : goal.invariant-loop-d
invariant-loop-d l = Tried l.b l.left l.initial.list l.list l.d-index
