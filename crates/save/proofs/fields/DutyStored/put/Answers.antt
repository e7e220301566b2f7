-- The fields are put one after the other; what is to be done is told by three numbers.
use Rattle.put.proofs.WriteLaws.{writes_last, writes_then}
use Rattle.save.proofs.fields.DutyStored.put.Goals as goal

pub returns : goal.returns
returns c =
    writes_then c.put.ensures
    (writes_then c.put-2.ensures
    (writes_then (rw c.numbers_of-action.ensures.action at c.put-3.ensures)
    (writes_then (rw c.numbers_of-action.ensures.first at c.put-4.ensures)
    (writes_then (rw c.numbers_of-action.ensures.second at c.put-5.ensures)
    (writes_then c.put-6.ensures
    (writes_last c.put-7.ensures))))))
