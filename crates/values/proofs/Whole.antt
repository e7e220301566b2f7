-- A board value is good just if its counts are in range and its four parts are good: the same tests, grouped
-- by part. (Holdings need not rise, so for them that test is always passed.)
use mathlib.Core.Path.{◌≡◌, refl}
use mathlib.Core.Bool.{true, false, ◌&&◌}
use mathlib.Core.List.{List, [], ◌∷◌}
use Rattle.orders.proofs.Tests.{and_left, and_right, and_both, same_test}
use Rattle.board.specs.declared.Board.{Board}
use Rattle.board.specs.Good.{good, counts_fit, rising}
use Rattle.values.specs.Places.{part_good, holding_tests, permission_tests, rule_tests, duty_tests}

no_order : {A : Type 0} (l : List A) → rising (λ x y. true) l ≡ true
no_order [] = refl
no_order (x ∷ []) = refl
no_order (x ∷ (y ∷ l)) = no_order (y ∷ l)

module _ (b : Board) where
  together :
      counts_fit b.counts b.next.0
      && (part_good (holding_tests b.counts.roles) b.counts.users b.holdings
      && (part_good (permission_tests b.counts.roles) b.counts.permissions b.permissions
      && (part_good (rule_tests b.counts.roles) b.counts.rules b.rules
      && part_good (duty_tests b.counts b.next.0) b.counts.duties b.duties)))
      ≡ good b
  unfolding good part_good
  together =
      same_test _ _
      (λ e. search (and_left, and_right, and_both) depth 12)
      (λ e. search (and_left, and_right, and_both, no_order) depth 12)

  pub not_counted : counts_fit b.counts b.next.0 ≡ false → false ≡ good b
  not_counted e = rw e at together

  pub by_parts :
      counts_fit b.counts b.next.0 ≡ true
      → part_good (holding_tests b.counts.roles) b.counts.users b.holdings
      && (part_good (permission_tests b.counts.roles) b.counts.permissions b.permissions
      && (part_good (rule_tests b.counts.roles) b.counts.rules b.rules
      && part_good (duty_tests b.counts b.next.0) b.counts.duties b.duties))
      ≡ good b
  by_parts e = rw e at together
