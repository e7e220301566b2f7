-- `values::part_fits` meets its contract: whatever is told of records, the one at hand fits, and it and those
-- that are left tell of them all.
use Rattle.std.specs.Prelude.{Bool}
use Rattle.values.specs.Places.{Tells, TellsOfTwo}
use Rattle.values.proofs.Neighbours.{RestTells}
use Rattle.values.proofs.part_fits.Given as goal

abbrev pub invariant-loop-x : goal.invariant-loop-x
invariant-loop-x g l =
    (f : g.row.T.Denot → Bool) (r : g.row.T.Denot → g.row.T.Denot → Bool)
    → Tells g.F.Fn l.fits f → TellsOfTwo g.G.Fn l.below r
    → RestTells f r l.used l.before l.others l.x-index
