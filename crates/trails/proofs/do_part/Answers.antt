-- `trails::do_part` meets its contract: each duty in turn is passed over or done.
use Rattle.std.proofs.Common.{rules, ◌≡◌, refl, sym, ◌∙◌, length, Err, arith}
use Rattle.in_order.proofs.ByKeys.{as_many}
use Rattle.trails.proofs.Walks.{turn_done, turn_skips, turn_stuck, part_done, at_turn}
use Rattle.trails.proofs.do_part.Goals as goal
use Rattle.trails.proofs.do_part.Goals.{then-in_trail+in_ok-next, else-in_trail}

pub returns-in_err-next : goal.returns-in_err-next
returns-in_err-next c =
    let turn = at_turn c.args.all.duties.now c.args.all.keys.now c.loop-key.key-index c.loop-key-test.true in
    let done = rw (c.ask.ensures, c.in_err-next.was) at c.do_one.ensures in
    let is : c.from_residual.result ≡ Err c.in_err-next.field-0.0 = search rules in
    rw is
    (turn_stuck c.loop-key.invariant turn.0 _ (turn.1 ∙ sym c.duty-y.ensures)
    (sym c.in_trail.ensures ∙ c.if-in_trail.true) _ done refl)

pub loop-key-preserved : goal.loop-key-preserved
loop-key-preserved c =
    let turn = at_turn c.args.all.duties.now c.args.all.keys.now c.loop-key.key-index c.loop-key-test.true in
    let duty = turn.1 ∙ sym c.duty-y.ensures in
    let test = sym c.in_trail.ensures in
    elim c.if-in_trail.branch [
      | then-in_trail+in_ok-next w ↦
          let done = rw (w.ask.ensures, w.in_ok-next.was) at w.do_one.ensures in
          rw (w.holdings-is, w.list-is, w.next-is)
          (turn_done c.loop-key.invariant turn.0 _ duty (test ∙ w.if-in_trail.true) _ done)
      | else-in_trail w ↦
          rw (w.holdings-is, w.list-is, w.next-is)
          (turn_skips c.loop-key.invariant turn.0 _ duty (test ∙ w.if-in_trail.false))
    ]

pub returns : goal.returns
returns c =
    let keys = c.args.all.keys.now in
    let many = as_many c.args.all.duties.now (length keys) keys in
    let end = c.loop-key-test.false in
    part_done (omega (arith, many)) c.loop-key.invariant
