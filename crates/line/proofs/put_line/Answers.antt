-- Word, number, numbers of the list and newline are put one after the other, and each has room, since words
-- and numbers are no longer than max_word and max_number.
use mathlib.Core.List.{[], ◌∷◌, append-nil}
use native.Mathlib.Omega.{arith}
use Rattle.line.specs.Line.{decimal}
use Rattle.put.proofs.WriteLaws.{writes_then}
use Rattle.line.proofs.NumberLaws.{numbers_length}
use Rattle.line.proofs.put_line.Goals as goal

pub put_number-requires : goal.put_number-requires
put_number-requires c = let word = c.put.ensures.written (omega arith) in omega arith

pub put_numbers-requires : goal.put_numbers-requires
put_numbers-requires c =
    let word = c.put.ensures.written (omega arith) in
    omega (arith, numbers_length (c.args.number ∷ []))

pub returns : goal.returns
returns c =
    let word = c.put.ensures.written (omega arith) in
    let all = writes_then c.put_number.ensures c.put_numbers.ensures in
    let number = numbers_length (c.args.number ∷ []) in
    let list = numbers_length c.args.list.now in
    let end = c.put-2.ensures.written (omega (arith, number, list)) in
    let line = writes_then word (writes_then all end) in
    rw (append-nil (decimal c.args.number)) at line.put
