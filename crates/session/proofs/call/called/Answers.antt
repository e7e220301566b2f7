-- `called` meets its contract: the record does what its kind asks for.
use mathlib.Core.Path.{refl}
use Rattle.session.proofs.Making.{made_admit, made_act, made_do}
use Rattle.session.proofs.call.called.Goals as goal

pub returns-in-Admit : goal.returns-in-Admit
returns-in-Admit c =
    made_admit c.args.b c.args.r c.args.list.now _ c.admit.result c.in-Ok.kind c.in-Ok.ensures c.from.result
    c.in-Admit.is c.from.ensures c.admit.ensures

pub returns-in-Act : goal.returns-in-Act
returns-in-Act c =
    made_act c.args.b c.args.r c.args.list.now _ c.act.result c.in-Ok.kind c.in-Ok.ensures
    c.from-in-Act.result c.in-Act.is c.from-in-Act.ensures c.act.ensures

pub returns-in-Do : goal.returns-in-Do
returns-in-Do c =
    made_do c.args.b c.args.r c.args.list.now _ c.do_duty.result c.in-Ok.kind c.in-Ok.ensures
    c.from-in-Do.result c.in-Do.is c.from-in-Do.ensures c.do_duty.ensures refl
