-- `withdraw::withdraw` meets its contract: an earlier check refuses, or the board without the duty is judged.
use Rattle.board.proofs.Sized.{sized}
use Rattle.withdraw.proofs.Withdrawing.{judged_withdraws}
use Rattle.withdraw.proofs.withdraw.Goals as goal

pub returns : goal.returns
returns c =
    judged_withdraws c.args.b c.args.list.now c.args.q (sized c.args.b _ c.well_formed.0)
    c.in_ok-allowed.ensures c.withdrawn-after.result c.withdrawn-after.ensures _ c.judged.result
    c.judged.ensures
