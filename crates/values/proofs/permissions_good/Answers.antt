-- `values::permissions_good` meets its contract: action and object are a permission's key.
use mathlib.Core.Path.{◌∙◌}
use borrow.Author.Rules.{rules}
use Rattle.std.proofs.Common.{tests}
use Rattle.board.specs.Good.{is_no_permission}
use Rattle.values.specs.Places.{part_good, permission_key, permission_climbs}
use Rattle.values.proofs.Keyed.{permissions_by_keys}
use Rattle.values.proofs.permissions_good.Goals as goal

pub returns : goal.returns
unfolding part_good
returns c =
    let right =
    c.climbs.ensures (permission_climbs c.args.roles) permission_key
    (λ n x r k. search (rules, tests)) (λ x n k. search (rules, tests))
    ∙ permissions_by_keys c.args.roles c.split.result.0.now in
    let filled = c.filled.ensures is_no_permission (λ x r k. search (rules, tests)) in
    rw (right, filled, c.split.ensures.used, c.split.ensures.rest)
