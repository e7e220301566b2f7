-- `values::part_good` meets its contract: the records that are counted stand before the filler.
use Rattle.values.specs.Places.{part_good}
use Rattle.values.proofs.part_good.Goals as goal

pub returns : goal.returns
unfolding part_good
returns g c = λ t tf tb tz.
    rw (
      c.part_fits.ensures t.fits t.below tf tb,
      c.filled.ensures t.filler tz,
      c.split.ensures.used,
      c.split.ensures.rest,
    )
