-- `acted` is right: the holdings are changed as `make_change` says, the clock is the given one, and the rest
-- is taken over.
use mathlib.Core.Path.{refl}
use Rattle.after.specs.Boards.{acted_board}
use Rattle.after.proofs.acted.Goals as goal

pub returns : goal.returns
unfolding acted_board
returns c = rw (← c.make_change.ensures) refl
