-- `open::open` meets its contract: a short list proves by itself; each other answer is one of
-- proofs/Opening.antt. That the list has room is left to arithmetic: a test of something else is refused with
-- the numbers that show it.
use mathlib.Core.Path.{refl}
use native.Mathlib.Omega.{arith}
use Rattle.std.proofs.lemmas.Result.{err_from_is_err_and}
use Rattle.open.proofs.Opening.{not_read, opened_red, opened_green}
use Rattle.open.proofs.open.Goals as goal

pub returns-in_err-board : goal.returns-in_err-board
returns-in_err-board c =
    let p = err_from_is_err_and c.from_residual.result c.from_residual.ensures.1 in
    rw (p.1, p.2) (not_read _ _ (omega arith) _ c.in_err-board.ensures.number)

pub returns-in_err-check_good : goal.returns-in_err-check_good
returns-in_err-check_good c =
    let from = c.from_residual-in_err-check_good in
    let p = err_from_is_err_and from.result from.ensures.1 in
    let read = c.in_ok-board.ensures in
    rw (p.1, p.2)
    (opened_red _ _ (omega arith) _ _ read.number (read.accepted refl) _ c.in_err-check_good.ensures)

pub returns : goal.returns
returns c =
    let read = c.in_ok-board.ensures in
    opened_green _ _ (omega arith) _ _ read.number (read.accepted refl) c.in_ok-check_good.ensures
