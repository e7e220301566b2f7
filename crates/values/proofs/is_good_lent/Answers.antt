-- `values::is_good_lent` meets its contract: the five tests together are that of the whole board value.
use mathlib.Core.Path.{sym, ◌∙◌}
use borrow.Author.Rules.{rules}
use Rattle.std.proofs.Common.{tests}
use Rattle.values.specs.Places.{holding_tests, rule_tests}
use Rattle.values.proofs.Whole.{not_counted, by_parts}
use Rattle.values.proofs.is_good_lent.Goals as goal

pub returns-then-not-counts_fit : goal.returns-then-not-counts_fit
returns-then-not-counts_fit c = not_counted _ (sym c.counts_fit.ensures ∙ c.if-not-counts_fit.true)

pub returns : goal.returns
returns c =
    let n = c.args.b.now.counts in
    rw (
      c.part_good-holdings.ensures (holding_tests n.roles)
          (λ x r k. search (rules, tests)) (λ x y r k. search (rules, tests))
          (λ x r k. search (rules, tests)),
      c.permissions_good-permissions.ensures,
      c.part_good-rules.ensures (rule_tests n.roles)
          (λ x r k. search (rules, tests)) (λ x y r k. search (rules, tests))
          (λ x r k. search (rules, tests)),
      c.duties_good-duties.ensures,
    )
    (by_parts _ (sym c.counts_fit.ensures ∙ c.if-not-counts_fit.false))
