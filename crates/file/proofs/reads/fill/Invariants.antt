-- `fill` meets its contract. The loop's invariant: the first i places hold the records that the bytes say,
-- the rest of the room holds the filler.
use mathlib.Core.Path.{◌≡◌}
use lib.ListN.{length}
use Rattle.file.specs.Reads.{filled}
use Rattle.file.proofs.reads.fill.Given as goal

abbrev pub invariant-loop-i : goal.invariant-loop-i
invariant-loop-i g l =
    l.room ≡ filled (g.T.Record.said l.file.bytes.now) g.T.Record.filler (length l.initial.room) l.i
