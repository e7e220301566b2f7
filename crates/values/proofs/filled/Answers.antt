-- `values::filled` meets its contract: what the fold gathers is whether all are filler.
use Rattle.std.proofs.Common.{rules, tests, ◌∙◌, ◌&&◌, true}
use Rattle.std.proofs.lemmas.Iterator.{YieldsList-from_slice}
use Rattle.std.proofs.lemmas.Iterator.Consumers.{fold_from_yields_List}
use Rattle.values.proofs.Gathered.{gathered}
use Rattle.values.proofs.filled.Goals as goal

pub returns : goal.returns
returns g c = λ z tz.
    fold_from_yields_List _ (λ a x. a && z x) true c.fold.result c.fold.ensures.ran
    (YieldsList-from_slice _ c.iter.ensures.rest)
    (λ a x b q k. (search rules, search (rules, tests))) ∙ gathered z c.args.rest.now
