-- `weigh` is right: a setter that concerns nobody changes nothing; another is weighed, and may be the spoiler.
use mathlib.Core.Path.{◌≡◌}
use lib.ListN.{length}
use borrow.Author.Rules.{rules}
use Rattle.board.specs.Limits.{max_duties}
use Rattle.troubles.proofs.Weighed.{starts, next_apart, next_weighed, setter_concerned, spoils}
use Rattle.troubles.proofs.weigh.weigh.Goals as goal
use Rattle.troubles.proofs.weigh.weigh.Goals.{then-user-d+else-makes_wrong, else-user-d}

pub loop-k-init : goal.loop-k-init
loop-k-init c = starts c.held_by-own.ensures c.held_by-theirs.ensures

pub reach_with-reach-requires : goal.reach_with-reach-requires
reach_with-reach-requires c =
    let long : length c.args.users.now ≡ max_duties = search rules in
    setter_concerned _ _ c.requires.users long c.requires.few c.loop-k-test.true _ _ _ c.if-user-d.true

pub returns-then-makes_wrong : goal.returns-then-makes_wrong
returns-then-makes_wrong c =
    let long : length c.args.mends.now ≡ max_duties = search rules in
    spoils c.loop-k.invariant c.loop-k-test.true c.requires.few long _ c.makes_wrong.result c.makes_wrong.ensures
    c.if-makes_wrong.true

pub loop-k-preserved : goal.loop-k-preserved
loop-k-preserved c =
    let so_far = c.loop-k.invariant in
    let h = c.loop-k-test.true in
    elim c.if-user-d.branch [
      | then-user-d+else-makes_wrong w ↦
          let long : length c.args.mends.now ≡ max_duties = search rules in
          rw w.reach-is
          (next_weighed so_far h c.requires.few long _ w.makes_wrong.result w.makes_wrong.ensures
          w.if-makes_wrong.false w.reach_with-reach.result w.reach_with-reach.ensures)
      | else-user-d w ↦
          let long : length c.args.users.now ≡ max_duties = search rules in
          rw w.reach-is (next_apart so_far h c.requires.few _ long c.requires.users w.if-user-d.false)
    ]
