-- `asks_of` is right: the keys are those of the board's permissions and rules.
use Rattle.std.proofs.Common.{rules, ◌∙◌, ap}
use Rattle.std.proofs.lemmas.List.{get_or-take}
use Rattle.board.specs.Filler.{no_duty}
use Rattle.asks.specs.Asks.{ask_of}
use Rattle.board.proofs.GoodLaws.{good→counts}
use Rattle.board.specs.View.{view}
use Rattle.asks.specs.Keys.{permission_key, rule_key}
use Rattle.asks.proofs.Asking.{all_keys, asked_next}
use Rattle.asks.proofs.asks_of.Goals as goal

pub loop-i-preserved : goal.loop-i-preserved
loop-i-preserved c =
    asked_next c.loop-i.invariant (search rules)
    (λ g.
    let counts = good→counts c.args.b.now g in
    c.ask_of.ensures g
    (all_keys permission_key _ _ c.permissions-permissions.ensures counts.permissions
    c.keys-action_keys.ensures c.min.ensures)
    (all_keys rule_key _ _ c.rules-rules.ensures counts.rules c.keys-kind_keys.ensures c.min-2.ensures)
    ∙ ap (ask_of (view c.args.b.now))
    (get_or-take c.min-count.result c.args.duties.now c.loop-i.i no_duty (search rules)))
