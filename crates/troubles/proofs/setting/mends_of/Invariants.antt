-- `mends_of` is right: the setters passed have the earliest ends of those that mend what they spoil.
use Rattle.troubles.specs.Mending.{mend_of}
use Rattle.troubles.proofs.Filled.{Filled}
use Rattle.troubles.proofs.setting.mends_of.Given as goal

abbrev pub invariant-loop-k : goal.invariant-loop-k
invariant-loop-k l = Filled (mend_of l.setters) l.setters l.k l.mends
