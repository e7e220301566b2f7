-- `permitted::is_met` meets its contract: what meets a rule's needs is a law.
use mathlib.Core.Path.{◌≡◌, sym, ap, ap₂, ◌∙◌}
use mathlib.Core.Bool.{Bool, ◌&&◌}
use Prim.Native.Nat.{ℕ}
use lib.ListN.{get_or}
use Rattle.board.specs.Permitted.{held_in}
use Rattle.permitted.specs.Meets.{meets_sets}
use Rattle.permitted.proofs.RuleNeeds.{rule_met}
use Rattle.permitted.proofs.is_met.Goals as goal

pub returns-in-Meets : goal.returns-in-Meets
returns-in-Meets c =
    let now = c.args.holdings.now in
    let target = c.in-Meets.target in
    let rule = c.in-Meets.rule in
    let actor : c.holds-in-Meets.result ≡ held_in now (c.args.doer, rule.actor) = c.holds-in-Meets.ensures in
    let held : c.held_by.result ≡ get_or now target 0 = c.held_by.ensures in
    let sets = c.meets.ensures ∙ ap (λ (x : ℕ). meets_sets x rule.wanted rule.barred) held in
    rw
    c.in-Meets.is
    (ap₂ (λ (a b : Bool). a && b) actor sets ∙ sym (rule_met now c.args.doer target rule))
