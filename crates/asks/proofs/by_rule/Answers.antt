-- `by_rule` is right: the record at the place found by halving is the one that `find` finds, if it has
-- the key.
use Rattle.std.proofs.Common.{rules, ◌≡◌, refl, sym, ◌∙◌, ap, ◌<◌, length, get_or, map, Some, None, arith}
use Rattle.board.specs.Filler.{no_rule}
use Rattle.board.specs.Permitted.{governs}
use Rattle.orders.specs.Lists.{find}
use Rattle.asks.specs.Keys.{Rising, rule_key}
use Rattle.asks.proofs.Found.{found_there, found_nowhere}
use Rattle.asks.proofs.by_rule.Goals as goal
use Rattle.asks.proofs.by_rule.Goals.{After-key_place, After-key}

-- where the record at the place, if there is one, has another key, none is found
missed :
    (c : After-key_place) → Rising (λ r. r.kind) (λ r. r.role) c.args.rules.now
    → c.args.keys.now ≡ map rule_key c.args.rules.now
    → (c.key_place.result < length c.args.rules.now
    → rule_key (get_or c.args.rules.now c.key_place.result no_rule) ≡ c.joined-sought.result → ⊥)
    → find (governs c.args.kind c.args.role) c.args.rules.now ≡ None
missed c rising are other =
    found_nowhere (λ r. r.kind) (λ r. r.role) c.args.kind c.args.role c.args.rules.now
    rising (omega arith) no_rule
    are c.joined-sought.ensures c.key_place.ensures (rw c.joined-sought.ensures at other)

-- the record read is the one at the place
same : (c : After-key) → rule_key (get_or c.args.rules.now c.key_place.result no_rule) ≡ c.key.result
same c =
    let read : c.in_ok-rule.rule.now ≡ get_or c.args.rules.now c.key_place.result no_rule = search rules in
    ap rule_key (sym read) ∙ sym c.key.ensures

pub returns-in_err-rule : goal.returns-in_err-rule
returns-in_err-rule c rising are =
    let p = (goal.at.returns-in_err-rule c).After-key_place in
    rw (missed p rising are (λ h e. absurd (omega (arith, c.in_err-rule.ensures.lookup.3))))
    c.from_residual.ensures

pub returns-then-key-sought : goal.returns-then-key-sought
returns-then-key-sought c rising are =
    let p = goal.at.returns-then-key-sought c in
    rw (missed p.After-key_place rising are (λ h e. c.if-key-sought.true (sym (same p.After-key) ∙ e))) refl

pub returns : goal.returns
returns c rising are =
    let p = goal.at.returns c in
    let read : c.in_ok-rule.rule.now ≡ get_or c.args.rules.now c.key_place.result no_rule = search rules in
    let inside : c.key_place.result < length c.args.rules.now = search rules in
    let key = same p.After-key ∙ c.if-key-sought.false ∙ c.joined-sought.ensures in
    let found =
    found_there (λ r. r.kind) (λ r. r.role) c.args.kind c.args.role c.args.rules.now
    rising (omega arith) no_rule
    are c.joined-sought.ensures c.key_place.ensures inside key in
    rw (found ∙ ap (λ r. Some r) (sym read)) refl
