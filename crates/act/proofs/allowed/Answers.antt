-- `act::allowed` meets its contract: 19, 9, 10 and 11 prove by themselves.
use mathlib.Core.Path.{sym, ◌∙◌}
use Rattle.act.proofs.Refusing.{answers_15, answers_0}
use Rattle.act.proofs.allowed.Goals as goal

pub returns-then-not-permitted : goal.returns-then-not-permitted
returns-then-not-permitted c =
    answers_15 c.args.b.now c.args.room c.args.q c.in_ok-ready.ensures
    (sym c.doing_fits.ensures ∙ c.if-not-doing_fits.false) _ _ c.permitted.ensures c.what_of-what.ensures
    c.if-not-permitted.true

pub returns : goal.returns
returns c =
    answers_0 c.args.b.now c.args.room c.args.q c.in_ok-ready.ensures
    (sym c.doing_fits.ensures ∙ c.if-not-doing_fits.false) _ _ c.permitted.ensures c.what_of-what.ensures
    c.if-not-permitted.false
