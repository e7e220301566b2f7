-- `withdraw::allowed` meets its contract: 19, 9 and 10 prove by themselves.
use mathlib.Core.Path.{sym, ◌∙◌}
use Rattle.withdraw.proofs.Withdrawing.{answers_12, answers_0}
use Rattle.withdraw.proofs.allowed.Goals as goal

pub returns-in_default : goal.returns-in_default
returns-in_default c =
    answers_12 c.args.b.now c.args.room c.args.q c.in_ok-ready.ensures
    (rw c.duties.ensures at (sym c.with_serial.ensures ∙ c.in_default.is))

pub returns : goal.returns
returns c =
    answers_0 c.args.b.now c.args.room c.args.q c.in_ok-ready.ensures _
    (rw c.duties.ensures at (sym c.with_serial.ensures ∙ c.in-Some.is))
