-- Each number is put after those before it, and has room.
use native.Mathlib.Omega.{arith}
use Rattle.put.proofs.WriteLaws.{writes_then}
use Rattle.line.proofs.NumberLaws.{numbers_next, first_numbers_length}
use Rattle.line.proofs.put_numbers.Goals as goal

pub put_number-requires : goal.put_number-requires
put_number-requires c =
    omega (arith, first_numbers_length c.loop-number.number-index c.args.list.now, c.loop-number-test.true)

pub loop-number-preserved : goal.loop-number-preserved
loop-number-preserved c =
    rw
    (numbers_next c.args.list.now c.loop-number.number-index c.loop-number-test.true)
    (writes_then c.loop-number.invariant (rw c.from.ensures at c.put_number.ensures))
