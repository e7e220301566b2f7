-- `verdict::judge` meets its contract: where no duty is open or `trouble_of` finds nothing the board is
-- green, and what it finds makes the order that `write_order` walks a failing one.
use mathlib.Core.Path.{refl}
use borrow.Author.Rules.{rules}
use Rattle.board.proofs.Sized.{sized}
use Rattle.verdict.proofs.Judging.{whole, nothing_green, none_green, found_red}
use Rattle.verdict.proofs.judge.Goals as goal

pub returns-then-n-eq0 : goal.returns-then-n-eq0
returns-then-n-eq0 c is_good room =
    let none = c.if-n-eq0.true in (
      none_green c.args.b (sized c.args.b _ c.well_formed.0) is_good (rw c.duties-duties.ensures at none),
      refl,
    )

pub returns-in_default : goal.returns-in_default
returns-in_default c is_good room =
    let b = c.args.b in
    let size = sized b _ c.well_formed.0 in
    let nothing =
    rw (c.duties-duties.ensures, whole b size is_good, c.in_default.is) at c.trouble_of.ensures in
    let asks = c.asks_of-asks in
    let asked = rw c.duties-duties.ensures at (asks.ensures is_good) in (
      nothing_green b size is_good asks.result asked nothing,
      refl,
    )

pub returns : goal.returns
returns c is_good room =
    let b = c.args.b in
    let size = sized b _ c.well_formed.0 in
    let found = rw (c.duties-duties.ensures, whole b size is_good, c.in-Some.is) at c.trouble_of.ensures in
    let asks = c.asks_of-asks in
    let asked = rw c.duties-duties.ensures at (asks.ensures is_good) in
    let order =
    found_red b size is_good asks.result asked
    c.in-Some.trouble.spoiler.0 c.in-Some.trouble.stuck.0 found c.in_order-keys.result (search rules)
    (rw c.duties-duties.ensures at c.in_order-keys.ensures) _ _
    c.write_order-length.result room (rw c.duties-duties.ensures at c.write_order-length.ensures) in
    (c.write_order-length.result, (refl, order))
