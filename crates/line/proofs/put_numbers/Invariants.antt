-- The loop's invariant: the numbers passed are put.
use lib.ListN.{take}
use Rattle.put.specs.Writes.{Writes}
use Rattle.line.specs.Line.{numbers}
use Rattle.line.proofs.put_numbers.Given as goal

abbrev pub invariant-loop-number : goal.invariant-loop-number
invariant-loop-number l = Writes (numbers (take l.number-index l.list)) l.initial.line l.line
