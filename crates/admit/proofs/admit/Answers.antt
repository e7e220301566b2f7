-- `admit::admit` meets its contract: an earlier check refuses, or the board with the duty added is judged.
use Rattle.std.proofs.lemmas.Result.{err_from_is_err_and}
use Rattle.board.specs.Filler.{Sized}
use Rattle.board.proofs.Sized.{sized}
use Rattle.admit.proofs.Admitting.{refused_admits, whole, few, spare, judged_admits}
use Rattle.admit.proofs.admit.Goals as goal
use Rattle.admit.proofs.admit.Goals.{Start}

size : (c : Start) → Sized c.args.b
size c = sized c.args.b _ c.well_formed.0

pub returns-in_err-allowed : goal.returns-in_err-allowed
returns-in_err-allowed c =
    let p = err_from_is_err_and c.from_residual.result c.from_residual.ensures.1 in
    rw (p.1, p.2) (refused_admits c.args.b c.args.list.now c.args.q _ c.in_err-allowed.ensures)

pub with_duty-after-requires : goal.with_duty-after-requires
with_duty-after-requires c =
    let b = c.args.b in
    let list = c.args.list.now in
    let q = c.args.q in
    let size_b = size (goal.at.with_duty-after-requires c).Start in
    let passes = c.in_ok-allowed.ensures in (
      whole b list q size_b passes,
      few b list q size_b passes,
      spare b list q size_b passes,
    )

pub returns : goal.returns
returns c =
    judged_admits c.args.b c.args.list.now c.args.q (size (goal.at.returns c).Start) c.in_ok-allowed.ensures
    c.with_duty-after.result c.with_duty-after.ensures _ c.judged.result c.judged.ensures
