-- `without_serial` is right: of the duties so far those without the serial stand at the start of the room,
-- closed up, with filler behind them, and `count` is their number.
use mathlib.Core.Path.{◌≡◌, ◌∙◌}
use mathlib.Core.Bool.{true, false, not}
use mathlib.Core.List.{List}
use Prim.Native.Nat.{◌<◌, min}
use native.Mathlib.Nat.{min_comm}
use Rattle.std.proofs.lemmas.List.{take_min}
use lib.ListN.{length, take, get_or}
use lib.Seq.{take_all}
use borrow.Author.Rules.{rules}
use Rattle.board.specs.declared.Duty.{Duty}
use Rattle.board.specs.After.{named}
use Rattle.board.specs.Filler.{no_duty}
use Rattle.board.specs.Limits.{max_duties}
use Rattle.pool.proofs.ClosedUp.{keep_one, keep_none, written, passed_over}
use Rattle.pool.proofs.without_serial.Goals as goal
use Rattle.pool.proofs.without_serial.Goals.{then-ne, else-ne}

pub loop-d-preserved : goal.loop-d-preserved
loop-d-preserved c =
    let known = c.loop-d.invariant in
    let few = take c.min.result c.args.duties.now in
    let i = c.loop-d.d-index in
    let more : i < length few = c.loop-d-test.true in
    let fits : c.loop-d.count < max_duties = search rules in
    elim c.if-ne.branch [
      | then-ne w ↦
          let other : not (named c.args.serial.0 (get_or few i no_duty)) ≡ true = search rules in
          rw (w.left-is, w.count-is) (written known _ fits (keep_one _ few _ no_duty more other))
      | else-ne w ↦
          let same : not (named c.args.serial.0 (get_or few i no_duty)) ≡ false = search rules in
          rw (w.left-is, w.count-is) (passed_over known (keep_none _ few _ no_duty more same))
    ]

pub returns : goal.returns
returns c =
    let duties = c.args.duties.now in
    let few : take c.loop-d.d-index (take c.min.result duties) ≡ take max_duties duties =
    take_all _ _ c.loop-d-test.false ∙ rw c.min.ensures (min_take duties) in
    rw (← few) (c.loop-d.invariant.is, c.loop-d.invariant.counted)
  where
    min_take : (l : List Duty) → take (min (length l) max_duties) l ≡ take max_duties l
    min_take l = rw min_comm (take_min max_duties l)
