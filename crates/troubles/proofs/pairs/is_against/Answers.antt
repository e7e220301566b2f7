-- `is_against` is right: by the doer's role, and else by what is asked of the target.
use borrow.Author.Tests.{eq-eqb, ne_eqb}
use Rattle.troubles.proofs.pairs.is_against.Goals as goal

pub returns-then-x-doer : goal.returns-then-x-doer
returns-then-x-doer c = rw c.if-x-doer.true

pub returns-then-x-ask : goal.returns-then-x-ask
returns-then-x-ask c =
    rw (c.if-x-doer.false, ne_eqb c.args.x.user c.args.ask.target c.if-x-ask.true)

pub returns : goal.returns
returns c =
    rw (c.if-x-doer.false, eq-eqb c.args.x.user c.args.ask.target c.if-x-ask.false)
