-- `trouble_of` is right: none of the duties passed is in trouble, and the table of mends, where it is made, is
-- right; it is made once at most.
use mathlib.Core.Path.{◌≡◌, sym, ◌∙◌}
use lib.ListN.{length, take, get_or, replicate}
use Prim.Native.Nat.{◌≤◌}
use borrow.Author.Rules.{rules}
use Rattle.std.specs.Option.{unwrap_or}
use Rattle.board.specs.Filler.{no_duty}
use Rattle.board.specs.Limits.{max_duties}
use Rattle.quick_criterion.specs.Mends.{last_minute}
use Rattle.troubles.proofs.Judged.{table_is, judged, spoiler, can_be_met_is}
use Rattle.troubles.proofs.Searching.{unasked, unmet, spoiled, one_more}
use Rattle.troubles.proofs.trouble_of.Goals as goal
use Rattle.troubles.proofs.trouble_of.Goals.{After-weigh}

-- what is read for the table of mends
read :
    (c : After-weigh) →
    c.unwrap_or-table.result.now ≡ unwrap_or c.loop-reach.mends (replicate max_duties last_minute)
read c = table_is _ c.loop-reach.mends c.as_ref.result c.as_ref.ensures.value c.unwrap_or-table.ensures

few : (c : After-weigh) → length (take c.setters_of-gathered.result.count c.setters_of-gathered.result.all) ≤ max_duties
few c = let gathered = c.setters_of-gathered.ensures in search rules

pub returns-in_default : goal.returns-in_default
returns-in_default c = rw (← c.min-n.ensures) (unasked _ _ _ _ c.loop-i-test.true c.in_default.is)

pub returns-then-is_some : goal.returns-then-is_some
returns-then-is_some c =
    let w = (goal.at.returns-then-is_some c).After-weigh in
    let pool = take c.min-n.result c.args.duties.now in
    let d = get_or pool c.loop-i.i no_duty in
    rw (← c.min-n.ensures)
    (spoiled _ _ _ _ c.loop-i-test.true c.in-Some.is
    (spoiler c.args.holdings.now pool _ d c.in-Some.ask c.setters_of-gathered.ensures.0 (few w) _ c.loop-reach.mends c.loop-reach.invariant
    (sym c.is_some.ensures ∙ c.if-is_some.true) (read w) (rw c.in-Err.is at c.weigh.ensures)))

pub returns-then-not-can_be_met : goal.returns-then-not-can_be_met
returns-then-not-can_be_met c =
    let w = (goal.at.returns-then-not-can_be_met c).After-weigh in
    let found =
    judged _ _ _ _ _ c.setters_of-gathered.ensures.0 (few w) c.loop-reach.mends c.loop-reach.invariant (read w)
    (rw c.in-Ok.is at c.weigh.ensures)
    in
    let met =
    can_be_met_is _ _ _ _ _ c.setters_of-gathered.ensures.0 (few w) found.0 c.can_be_met.ensures
    in
    rw (← c.min-n.ensures) (unmet _ _ _ _ c.loop-i-test.true c.in-Some.is (met ∙ c.if-not-can_be_met.true))

pub loop-i-preserved : goal.loop-i-preserved
loop-i-preserved c =
    let w = (goal.at.loop-i-preserved c).After-weigh in
    let found =
    judged _ _ _ _ _ c.setters_of-gathered.ensures.0 (few w) c.loop-reach.mends c.loop-reach.invariant (read w)
    (rw c.in-Ok.is at c.weigh.ensures)
    in
    let met =
    can_be_met_is _ _ _ _ _ c.setters_of-gathered.ensures.0 (few w) found.0 c.can_be_met.ensures
    in (
      c.loop-reach.invariant,
      one_more _ _ _ _ c.loop-i-test.true c.in-Some.is c.loop-i.invariant.1 (met ∙ c.if-not-can_be_met.false) found.1,
    )
