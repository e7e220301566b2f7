-- `setters_of` is right: what those of the duties passed set that set a holding stands closed up at the start
-- of the room.
use Rattle.board.specs.Limits.{max_duties}
use Rattle.troubles.specs.Setting.{sets_one, setter_of}
use Rattle.troubles.proofs.Gathered.{Gathered}
use Rattle.troubles.proofs.setting.setters_of.Given as goal

abbrev pub invariant-loop-d : goal.invariant-loop-d
invariant-loop-d l = Gathered sets_one setter_of max_duties l.duties l.all l.count l.d-index
