-- `trails::do_part` meets its contract. The loop's invariant: what is left of the order takes the walk to
-- the same end as the whole order does from the start.
use Rattle.std.proofs.Common.{length, Ok}
use Rattle.in_order.specs.InOrder.{by_keys}
use Rattle.trails.specs.Walking.{in_trail, ask_at, walking}
use Rattle.trails.proofs.Walks.{Passed}
use Rattle.trails.proofs.do_part.Given as goal

abbrev pub invariant-loop-key : goal.invariant-loop-key
invariant-loop-key l =
    let duties = l.all.duties.now in
    let start = walking l.initial.holdings (Ok l.initial.next) l.initial.list in
    let keys = l.all.keys.now in
    Passed (by_keys duties (length keys) keys) (ask_at l.all.asks.now keys) (in_trail l.late l.x l.d) start
    (walking l.holdings (Ok l.next) l.list) l.key-index
