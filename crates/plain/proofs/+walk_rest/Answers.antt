-- `walk_rest` meets its contract: in a turn the duty at hand is one of the pool's. If it may come next it is
-- tried, permitted or not; where an order fails with it in front, its serial is put there and that order is
-- told, and else the next turn goes on with the list as it was.
use Rattle.plain.proofs.Turns.{begun}
use Rattle.plain.proofs.+walk_rest.Goals as goal

pub loop-d-init : goal.loop-d-init
loop-d-init t c = begun c.if-left-eq0.false
