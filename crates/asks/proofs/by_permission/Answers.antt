-- `by_permission` is right: the record at the place found by halving is the one that `find` finds, if it has
-- the key.
use Rattle.std.proofs.Common.{rules, ◌≡◌, refl, sym, ◌∙◌, ap, ◌<◌, length, get_or, map, Some, None, arith}
use Rattle.board.specs.Filler.{no_permission}
use Rattle.board.specs.Permitted.{is_for}
use Rattle.orders.specs.Lists.{find}
use Rattle.asks.specs.Keys.{Rising, permission_key}
use Rattle.asks.proofs.Found.{found_there, found_nowhere}
use Rattle.asks.proofs.by_permission.Goals as goal
use Rattle.asks.proofs.by_permission.Goals.{After-key_place, After-key}

-- where the record at the place, if there is one, has another key, none is found
missed :
    (c : After-key_place) → Rising (λ p. p.action) (λ p. p.object) c.args.permissions.now
    → c.args.keys.now ≡ map permission_key c.args.permissions.now
    → (c.key_place.result < length c.args.permissions.now
    → permission_key (get_or c.args.permissions.now c.key_place.result no_permission) ≡ c.joined-sought.result
    → ⊥)
    → find (is_for c.args.action c.args.object) c.args.permissions.now ≡ None
missed c rising are other =
    found_nowhere (λ p. p.action) (λ p. p.object) c.args.action c.args.object c.args.permissions.now
    rising (omega arith) no_permission
    are c.joined-sought.ensures c.key_place.ensures (rw c.joined-sought.ensures at other)

-- the record read is the one at the place
same :
    (c : After-key) → permission_key (get_or c.args.permissions.now c.key_place.result no_permission) ≡ c.key.result
same c =
    let read : c.in_ok-permission.permission.now ≡ get_or c.args.permissions.now c.key_place.result no_permission =
    search rules in
    ap permission_key (sym read) ∙ sym c.key.ensures

pub returns-in_err-permission : goal.returns-in_err-permission
returns-in_err-permission c rising are =
    let p = (goal.at.returns-in_err-permission c).After-key_place in
    rw (missed p rising are (λ h e. absurd (omega (arith, c.in_err-permission.ensures.lookup.3))))
    c.from_residual.ensures

pub returns-then-key-sought : goal.returns-then-key-sought
returns-then-key-sought c rising are =
    let p = goal.at.returns-then-key-sought c in
    rw (missed p.After-key_place rising are (λ h e. c.if-key-sought.true (sym (same p.After-key) ∙ e))) refl

pub returns : goal.returns
returns c rising are =
    let p = goal.at.returns c in
    let read : c.in_ok-permission.permission.now ≡ get_or c.args.permissions.now c.key_place.result no_permission =
    search rules in
    let inside : c.key_place.result < length c.args.permissions.now = search rules in
    let key = same p.After-key ∙ c.if-key-sought.false ∙ c.joined-sought.ensures in
    let found =
    found_there (λ p. p.action) (λ p. p.object) c.args.action c.args.object c.args.permissions.now
    rising (omega arith) no_permission
    are c.joined-sought.ensures c.key_place.ensures inside key in
    rw (found ∙ ap (λ p. Some p) (sym read)) refl
