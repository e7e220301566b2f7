-- `ask_of` is right: on a good board permissions and rules rise.
use Rattle.std.proofs.Common.{refl}
use Rattle.asks.proofs.Asking.{permissions_rise, rules_rise, whoever}
use Rattle.asks.proofs.ask_of.Goals as goal

pub returns-in-Grant : goal.returns-in-Grant
returns-in-Grant c g actions kinds =
    let asked = c.by_rule.ensures (rw c.rules.ensures (rules_rise c.args.b.now g)) (rw c.rules.ensures kinds) in
    rw (asked, c.rules.ensures, c.in-Grant.is) (whoever _ _ _)

pub returns-in-Revoke : goal.returns-in-Revoke
returns-in-Revoke c g actions kinds =
    let asked =
    c.by_rule-in-Revoke.ensures (rw c.rules-in-Revoke.ensures (rules_rise c.args.b.now g))
    (rw c.rules-in-Revoke.ensures kinds) in
    rw (asked, c.rules-in-Revoke.ensures, c.in-Revoke.is) (whoever _ _ _)

pub returns-in-Use : goal.returns-in-Use
returns-in-Use c g actions kinds =
    let asked =
    c.by_permission.ensures (rw c.permissions.ensures (permissions_rise c.args.b.now g))
    (rw c.permissions.ensures actions) in
    rw (asked, c.permissions.ensures, c.in-Use.is) refl
