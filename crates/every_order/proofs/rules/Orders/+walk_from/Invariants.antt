-- `walk_from` ends: fewer duties are left at each call. Every duty is tried at each point, while one is left.
use Rattle.std.proofs.Common.{◌≤◌}
use Rattle.every_order.proofs.rules.Orders.+walk_from.Given as goal

abbrev pub invariant-loop-place : goal.invariant-loop-place
invariant-loop-place l = 1 ≤ l.left

-- how many duties are left
abbrev pub decreases-walk_from : goal.decreases-walk_from
decreases-walk_from l = l.left
