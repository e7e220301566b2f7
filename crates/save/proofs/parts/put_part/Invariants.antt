-- The loop's invariant: the records passed are put.
use lib.ListN.{take}
use Rattle.put.specs.Writes.{Writes}
use Rattle.save.specs.FileOf.{part}
use Rattle.save.proofs.parts.put_part.Given as goal

abbrev pub invariant-loop-record : goal.invariant-loop-record
invariant-loop-record g l =
    Writes (part g.T.Stored.bytes (take l.record-index l.records)) l.initial.file l.file
