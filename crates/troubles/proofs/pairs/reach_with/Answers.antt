-- `reach_with` is right: a duty that is not wholly before d is out of reach; else the roles that it grants
-- are put in, and those that it revokes taken out, in the sets of the user that it sets.
use Rattle.troubles.proofs.Weighing.{not_before, own_reached, target_reached, both_reached}
use Rattle.troubles.proofs.pairs.reach_with.Goals as goal

pub returns-then-d-x : goal.returns-then-d-x
returns-then-d-x c y is_x =
    not_before c.args.d c.args.ask c.args.reach y is_x c.if-d-x.true

pub returns-then-x-ask : goal.returns-then-x-ask
returns-then-x-ask c y is_x =
    own_reached c.args.d c.args.ask c.args.reach y is_x c.if-d-x.false c.requires c.if-x-ask.true

pub returns-then-x-d : goal.returns-then-x-d
returns-then-x-d c y is_x =
    target_reached c.args.d c.args.ask c.args.reach y is_x c.if-d-x.false c.if-x-ask.false c.if-x-d.true

pub returns : goal.returns
returns c y is_x =
    both_reached c.args.d c.args.ask c.args.reach y is_x c.if-d-x.false c.if-x-ask.false c.if-x-d.false
