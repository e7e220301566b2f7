-- `act::act` meets its contract: an earlier check refuses, or the board with the change made is judged.
use mathlib.Core.Path.{ap, ◌∙◌}
use Rattle.board.proofs.Sized.{sized}
use Rattle.after.specs.Boards.{acted_board}
use Rattle.act.proofs.Acting.{judged_acts}
use Rattle.act.proofs.act.Goals as goal

pub returns : goal.returns
returns c =
    let b = c.args.b in
    let q = c.args.q in
    judged_acts b c.args.list.now q (sized b _ c.well_formed.0) c.in_ok-allowed.ensures c.acted-after.result
    (c.acted-after.ensures ∙ ap (acted_board b q.clock) c.what_of-what.ensures) _ c.judged.result
    c.judged.ensures
