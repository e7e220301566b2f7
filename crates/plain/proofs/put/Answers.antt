-- `plain::put` meets its contract: a place beyond the end is not written, and `set` changes nothing there.
use mathlib.Core.Path.{sym}
use lib.Seq.{set_out}
use Rattle.plain.proofs.put.Goals as goal

pub returns-else-at-list : goal.returns-else-at-list
returns-else-at-list c = sym (set_out c.args.list.now c.args.at c.args.serial.0 c.if-at-list.false)
