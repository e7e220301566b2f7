-- `permitted::meets` meets its contract: the test of whole sets is that of each role.
use borrow.Author.Rules.{rules}
use Rattle.permitted.proofs.WholeSets.{whole_sets}
use Rattle.permitted.proofs.meets.Goals as goal

pub returns : goal.returns
returns c = whole_sets c.args.set c.args.wanted c.args.barred (search rules) (search rules)
