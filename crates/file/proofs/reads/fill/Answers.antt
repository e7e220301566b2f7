-- `fill` meets its contract. The loop's invariant: the first i places hold the records that the bytes say,
-- the rest of the room holds the filler.
use mathlib.Core.Path.{◌≡◌}
use native.Mathlib.Omega.{arith}
use Rattle.file.proofs.Filled.{filling_starts, filling_next}
use Rattle.file.proofs.reads.fill.Goals as goal

pub loop-i-init : goal.loop-i-init
loop-i-init g c = filling_starts (g.T.Record.said c.args.file.now.bytes.now) _ _ _ c.requires.empty

pub loop-i-preserved : goal.loop-i-preserved
loop-i-preserved g c =
    filling_next _ _ _ c.loop-i.i c.loop-i.room c.read.result c.loop-i.invariant c.read.ensures (omega arith)

pub returns : goal.returns
returns g c =
    let all : c.loop-i.i ≡ g.T.Record.size c.args.file.now.counts = omega arith in
    rw all at c.loop-i.invariant
