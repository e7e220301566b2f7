-- `makes_wrong` is right: each of the three tests says that x does no harm; past them it makes d wrong if the
-- opposite of what it sets is asked.
use Prim.Native.Nat.{◌≤◌}
use borrow.Author.Rules.{rules}
use Rattle.quick_criterion.specs.Mends.{last_minute}
use Rattle.troubles.proofs.Weighing.{wholly_later, mended, itself, left_wrong}
use Rattle.troubles.proofs.pairs.makes_wrong.Goals as goal
use Rattle.troubles.proofs.pairs.makes_wrong.Goals.{Start}

-- a start is a minute
small : (c : Start) → c.args.d.start ≤ last_minute
small c = search rules

pub returns-then-d-x : goal.returns-then-d-x
returns-then-d-x c y l is_x is_mend =
    let s = (goal.at.returns-then-d-x c).Start in
    wholly_later c.args.d c.args.ask (small s) c.requires y l is_x is_mend c.if-d-x.true

pub returns-then-mend-d : goal.returns-then-mend-d
returns-then-mend-d c y l is_x is_mend =
    let s = (goal.at.returns-then-mend-d c).Start in
    mended c.args.d c.args.ask (small s) c.requires y l is_x is_mend c.if-mend-d.true

pub returns-then-other-serial : goal.returns-then-other-serial
returns-then-other-serial c y l is_x is_mend =
    let s = (goal.at.returns-then-other-serial c).Start in
    itself c.args.d c.args.ask (small s) c.requires y l is_x is_mend c.if-other-serial.true

pub returns : goal.returns
returns c y l is_x is_mend =
    let s = (goal.at.returns c).Start in
    rw
    c.is_against.ensures
    (left_wrong c.args.d c.args.ask (small s) c.requires y l is_x is_mend
    c.if-d-x.false c.if-mend-d.false c.if-other-serial.false)
