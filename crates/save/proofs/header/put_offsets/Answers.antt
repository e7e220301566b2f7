-- The numbers are put one after the other.
use Rattle.put.proofs.WriteLaws.{writes_last, writes_then}
use Rattle.save.proofs.header.put_offsets.Goals as goal

pub returns : goal.returns
returns c =
    writes_then c.put.ensures
    (writes_then (rw c.permissions_from.ensures at c.put-2.ensures)
    (writes_then (rw c.rules_from.ensures at c.put-3.ensures)
    (writes_then (rw c.duties_from.ensures at c.put-4.ensures)
    (writes_last (rw c.total_of.ensures at c.put-5.ensures)))))
