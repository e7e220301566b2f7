-- `can_be_met` is right: it is the definition's own words.
use Rattle.troubles.proofs.pairs.can_be_met.Goals as goal

pub returns : goal.returns
returns c = rw (c.holds.ensures, c.meets.ensures, c.meets-2.ensures)
