-- `values::duties_good` meets its contract: the serial is a duty's key.
use mathlib.Core.Path.{◌∙◌}
use borrow.Author.Rules.{rules}
use Rattle.std.proofs.Common.{tests}
use Rattle.board.specs.Good.{is_no_duty}
use Rattle.values.specs.Places.{part_good, duty_climbs}
use Rattle.values.proofs.Keyed.{duties_by_keys}
use Rattle.values.proofs.duties_good.Goals as goal

pub returns : goal.returns
unfolding part_good
returns c =
    let right =
    c.climbs.ensures (duty_climbs c.args.counts.users c.args.counts.roles) (λ d. d.serial.0)
    (λ n x r k. search (rules, tests)) (λ x n k. search (rules, tests))
    ∙ duties_by_keys c.args.counts c.args.next.0 c.requires c.split.result.0.now in
    let filled = c.filled.ensures is_no_duty (λ x r k. search (rules, tests)) in
    rw (right, filled, c.split.ensures.used, c.split.ensures.rest)
