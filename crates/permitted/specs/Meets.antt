-- The test of wanted and barred roles, set against set.
use Rattle.std.specs.Prelude.{Bool, ◌&&◌, not, ℕ}
use Rattle.orders.specs.Lists.{all}
use Rattle.roles.specs.Roles.{in_set}
use Rattle.board.specs.Permitted.{roles_in}

-- the set has every wanted role and no barred one
abbrev pub meets_sets : ℕ → ℕ → ℕ → Bool
meets_sets set wanted barred =
    all (in_set set) (roles_in wanted) && all (λ role. not (in_set set role)) (roles_in barred)
