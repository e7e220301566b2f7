-- Each record is put after those before it, which leave room for it.
use mathlib.Core.Path.{ap}
use native.Mathlib.Omega.{arith}
use lib.ListN.{length}
use Rattle.std.proofs.lemmas.List.Folds.{length-flat_map-take}
use Rattle.put.proofs.WriteLaws.{writes_then}
use Rattle.save.proofs.PartLaws.{part_next}
use Rattle.save.proofs.parts.put_part.Goals as goal

pub put-requires : goal.put-requires
put-requires g c =
    let bytes = g.T.Stored.bytes in
    let room = length-flat_map-take bytes _ _ c.record-item.result c.loop-record-test.true in
    omega (arith, room, ap (λ r. length (bytes r)) c.record-item.is)

pub loop-record-preserved : goal.loop-record-preserved
loop-record-preserved g c =
    rw
    (part_next g.T.Stored.bytes _ _ _ c.record-item.is c.loop-record-test.true)
    (writes_then c.loop-record.invariant c.put.ensures)
