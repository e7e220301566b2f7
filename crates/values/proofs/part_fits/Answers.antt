-- `values::part_fits` meets its contract: whatever is told of records, the one at hand fits, and it and those
-- that are left tell of them all.
use mathlib.Core.Path.{refl}
use Rattle.values.proofs.Neighbours.{begins, passes, fails, ends}
use Rattle.values.proofs.part_fits.Goals as goal

pub loop-x-init : goal.loop-x-init
loop-x-init g c = λ f r tf tr.
    begins c.in-Some.ensures.cases.0 (tf _ _ c.fits.ensures) c.if-not-fits.false

pub returns-then-not-fits-2 : goal.returns-then-not-fits-2
returns-then-not-fits-2 g c = λ f r tf tr.
    fails (c.loop-x.invariant f r tf tr) c.loop-x-test.true c.x-item.is
    (tf _ _ c.fits-in-loop-x.ensures) refl (rw c.if-not-fits-2.true)

pub returns-then-not-below : goal.returns-then-not-below
returns-then-not-below g c = λ f r tf tr.
    fails (c.loop-x.invariant f r tf tr) c.loop-x-test.true c.x-item.is
    (tf _ _ c.fits-in-loop-x.ensures) (tr _ _ _ c.below.ensures)
    (rw (c.if-not-fits-2.false, c.if-not-below.true))

pub loop-x-preserved : goal.loop-x-preserved
loop-x-preserved g c = λ f r tf tr.
    passes (c.loop-x.invariant f r tf tr) c.loop-x-test.true c.x-item.is
    (tf _ _ c.fits-in-loop-x.ensures) (tr _ _ _ c.below.ensures)
    (rw (c.if-not-fits-2.false, c.if-not-below.false))

pub returns-in-Some : goal.returns-in-Some
returns-in-Some g c = λ f r tf tr. ends (c.loop-x.invariant f r tf tr) c.loop-x-test.false
