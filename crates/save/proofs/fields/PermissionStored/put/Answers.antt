-- The fields are put one after the other.
use Rattle.put.proofs.WriteLaws.{writes_last, writes_then}
use Rattle.save.proofs.fields.PermissionStored.put.Goals as goal

pub returns : goal.returns
returns c =
    writes_then c.put.ensures
    (writes_then c.put-2.ensures
    (writes_last c.put-3.ensures))
