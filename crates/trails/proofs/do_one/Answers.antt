-- `trails::do_one` meets its contract: where the list has no room the walk stays; else the serial is written,
-- and `meets_ask` tells whether the duty is permitted.
use borrow.Author.Tests.{le-leb, lt-leb}
use mathlib.Core.Path.{refl}
use Rattle.trails.specs.Walking.{do_one}
use Rattle.trails.proofs.do_one.Goals as goal

pub returns-then-list-at : goal.returns-then-list-at
unfolding do_one
returns-then-list-at c = rw (le-leb _ _ c.if-list-at.true) refl

pub returns-then-not-meets_ask : goal.returns-then-not-meets_ask
unfolding do_one
returns-then-not-meets_ask c =
    rw (lt-leb _ _ c.if-list-at.false, ← c.meets_ask.ensures, c.if-not-meets_ask.true) refl

pub returns : goal.returns
unfolding do_one
returns c =
    rw (lt-leb _ _ c.if-list-at.false, ← c.meets_ask.ensures, c.if-not-meets_ask.false, c.make_change.ensures) refl
