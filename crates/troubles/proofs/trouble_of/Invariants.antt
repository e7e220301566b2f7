-- `trouble_of` is right: none of the duties passed is in trouble, and the table of mends, where it is made, is
-- right; it is made once at most.
use mathlib.Core.Bool.{cond}
use lib.ListN.{take}
use Rattle.std.specs.Option.{is_some}
use Rattle.troubles.proofs.Judged.{Table}
use Rattle.troubles.proofs.Searching.{Quiet}
use Rattle.troubles.proofs.trouble_of.Given as goal

abbrev pub invariant-loop-reach : goal.invariant-loop-reach
invariant-loop-reach l = Table l.setters l.mends

abbrev pub decreases-loop-reach : goal.decreases-loop-reach
decreases-loop-reach l = cond (is_some l.mends) 0 1

abbrev pub invariant-loop-i : goal.invariant-loop-i
invariant-loop-i l = Table l.setters l.mends × Quiet l.holdings (take l.n l.duties) l.asks l.i
