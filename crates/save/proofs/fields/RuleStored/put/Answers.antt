-- The fields are put one after the other.
use Rattle.put.proofs.WriteLaws.{writes_last, writes_then}
use Rattle.save.proofs.fields.RuleStored.put.Goals as goal

pub returns : goal.returns
returns c =
    writes_then c.put.ensures
    (writes_then c.put-2.ensures
    (writes_then c.put-3.ensures
    (writes_then c.put-4.ensures
    (writes_then c.put-5.ensures
    (writes_last c.put-6.ensures)))))
