-- The header is put in four pieces, one after the other.
use Rattle.put.proofs.WriteLaws.{writes_last, writes_then}
use Rattle.save.proofs.header.put_header.Goals as goal

pub returns : goal.returns
returns c =
    writes_then c.put_counts.ensures
    (writes_then c.put.ensures
    (writes_then c.put-2.ensures
    (writes_last c.put_offsets.ensures)))
