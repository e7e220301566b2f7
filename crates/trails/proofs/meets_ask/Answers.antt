-- `trails::meets_ask` meets its contract: it is the test's own words, with a call for each set and each test.
use Rattle.trails.proofs.meets_ask.Goals as goal

pub returns : goal.returns
returns c =
    rw (
      c.in-Some.is,
      c.meets.ensures,
      c.holds.ensures,
      c.held_by-theirs.ensures,
      c.held_by-own.ensures,
    )
