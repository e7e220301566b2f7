-- A space is put, and the digits after it.
use mathlib.Core.Path.{sym, ◌∙◌}
use mathlib.Core.List.{append-nil}
use native.Mathlib.Omega.{arith}
use Rattle.std.proofs.Common.{rules}
use Rattle.put.proofs.WriteLaws.{writes_then}
use Rattle.line.proofs.NumberLaws.{same_decimal}
use Rattle.line.proofs.put_number.Goals as goal

pub returns : goal.returns
returns c =
    let own = same_decimal c.args.n c.ranges.n.fits in
    let digits = c.as_bytes-spelled.ensures.value ∙ c.format.ensures.text ∙ sym own in
    let space = c.put.ensures.written (omega arith) in
    let number = c.put-2.ensures.written (search rules) in
    rw append-nil (writes_then space (rw digits at number))
