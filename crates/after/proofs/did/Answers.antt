-- `did` is right: the duties and their count are those that `without_serial` leaves, the holdings are changed
-- as `make_change` says, the clock is the given one, and the rest is taken over.
use mathlib.Core.Path.{refl}
use Rattle.board.proofs.Sized.{sized}
use Rattle.after.specs.Boards.{acted_board, withdrawn_board}
use Rattle.after.proofs.Room.{all_in_room}
use Rattle.after.proofs.did.Goals as goal

pub returns : goal.returns
unfolding acted_board withdrawn_board
returns c =
    let room = all_in_room c.args.b (sized c.args.b _ c.well_formed.0) in
    let rest = rw (c.duties.ensures, room) at c.without_serial-left.ensures in
    rw (← rest.0, ← rest.1, ← c.make_change.ensures) refl
