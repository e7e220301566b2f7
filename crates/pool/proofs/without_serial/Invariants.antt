-- `without_serial` is right: of the duties so far those without the serial stand at the start of the room,
-- closed up, with filler behind them, and `count` is their number.
use lib.ListN.{take}
use Rattle.board.specs.After.{without_serial}
use Rattle.board.specs.Filler.{no_duty}
use Rattle.board.specs.Limits.{max_duties}
use Rattle.pool.proofs.ClosedUp.{ClosedUp}
use Rattle.pool.proofs.without_serial.Given as goal

abbrev pub invariant-loop-d : goal.invariant-loop-d
invariant-loop-d l =
    let others = without_serial l.serial.0 (take l.d-index l.few) in
    ClosedUp no_duty max_duties l.d-index others l.left l.count
