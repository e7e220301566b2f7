-- `plain::walk` meets its contract: past the refusals it answers what the walk finds (proofs/Answered.antt).
use Prim.Native.Nat.{◌≤◌}
use native.Mathlib.Omega.{arith}
use lib.ListN.{length}
use borrow.Author.Rules.{rules}
use Rattle.board.specs.View.{view}
use Rattle.plain.specs.Walks.{most}
use Rattle.plain.proofs.Answered.{walked_green, walked_red}
use Rattle.plain.proofs.walk.Goals as goal

pub returns-in-Some : goal.returns-in-Some
returns-in-Some c =
    let few : length (view c.args.b).duties ≤ most = rw c.duties-n.ensures at c.if-n-gt-MOST.false in
    walked_red c.args.b c.args.list.now (search rules) (search rules) (omega arith) few _ _
    (rw c.duties-n.ensures at c.walk_rest.ensures) _ c.in-Some.is

pub returns-in-None : goal.returns-in-None
returns-in-None c =
    let few : length (view c.args.b).duties ≤ most = rw c.duties-n.ensures at c.if-n-gt-MOST.false in
    walked_green c.args.b c.args.list.now (search rules) (search rules) (omega arith) few _ _
    (rw c.duties-n.ensures at c.walk_rest.ensures) c.in-None.is
