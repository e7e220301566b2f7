-- `admit::with_duty` meets its contract: the duty stands in the first place of the room that is left.
use Prim.Native.Nat.{◌<◌}
use borrow.Author.Rules.{rules}
use Rattle.board.specs.Filler.{Sized}
use Rattle.board.specs.Limits.{max_duties}
use Rattle.board.proofs.Sized.{sized}
use Rattle.after.proofs.AfterLaws.{same_duties}
use Rattle.admit.proofs.Admitting.{added}
use Rattle.admit.proofs.with_duty.Goals as goal
use Rattle.admit.proofs.with_duty.Goals.{Start}

size : (c : Start) → Sized c.args.b
size c = sized c.args.b _ c.well_formed.0

few : (c : Start) → c.args.b.counts.duties < max_duties
few c = rw (same_duties c.args.b (size c) c.requires.0).0 c.requires.1

pub bounds-after-at : goal.bounds-after-at
bounds-after-at c = few (goal.at.bounds-after-at c).Start

pub overflow_add-after : goal.overflow_add-after
overflow_add-after c = let h = few (goal.at.overflow_add-after c).Start in search rules

pub returns : goal.returns
returns c =
    added c.args.b (size (goal.at.returns c).Start) c.requires.0 c.requires.1 c.args.q _
    c.duty_asked-d.ensures
