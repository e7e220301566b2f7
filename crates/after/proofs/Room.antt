-- The open duties of a board value fit the room.
use mathlib.Core.Path.{◌≡◌}
use native.Mathlib.Omega.{arith}
use lib.ListN.{take, length-take}
use lib.Seq.{take_all}
use Rattle.board.specs.declared.Board.{Board}
use Rattle.board.specs.Filler.{Sized}
use Rattle.board.specs.Limits.{max_duties}
use Rattle.board.specs.View.{view}

pub all_in_room : (b : Board) → Sized b → take max_duties (view b).duties ≡ (view b).duties
all_in_room b size = take_all max_duties (view b).duties (rw (length-take, size.duties) (omega arith))
