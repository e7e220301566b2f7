-- `values::climbs` meets its contract: the records that are left, by the key before them, tell of all.
use mathlib.Core.Path.{◌≡◌}
use mathlib.Core.Bool.{Bool}
use Prim.Native.Nat.{ℕ}
use lib.ListN.{drop}
use Rattle.values.specs.Places.{climbs, TellsByKey, Gives}
use Rattle.values.proofs.climbs.Given as goal

abbrev pub invariant-loop-x : goal.invariant-loop-x
invariant-loop-x g l =
    (f : ℕ → g.row.T.Denot → Bool) (k : g.row.T.Denot → ℕ)
    → TellsByKey g.F.Fn l.test f → Gives g.K.Fn l.key k
    → climbs f k l.above_all l.below_all l.used ≡ climbs f k l.above_all l.before (drop l.x-index l.used)
