-- The test of wanted and barred roles, set against set, is one of whole sets: all wanted roles are in common
-- with the set, and no barred one is.
use mathlib.Core.Path.{◌≡◌}
use mathlib.Core.Bool.{Bool, true, not, ◌&&◌}
use Prim.Native.Nat.{ℕ, ◌<◌, ◌^◌}
use lib.Bits.{bit_and}
use lib.Dec.{eqb}
use Rattle.orders.specs.Lists.{all}
use Rattle.orders.proofs.Tests.{same_test, not_true, not_of_false}
use Rattle.orders.proofs.Lists.{all_mem, all_in}
use Rattle.roles.specs.Roles.{in_set}
use Rattle.roles.proofs.Whole.{has_all, has_none}
use Rattle.board.specs.Limits.{max_roles}
use Rattle.board.specs.Permitted.{roles_in}
use Rattle.board.proofs.RolesIn.{roles_mem}
use Rattle.permitted.specs.Meets.{meets_sets}

-- a test of each role in a set is one of each role below the limit that the set has
each_role :
    (p : ℕ → Bool) (other : ℕ) → all p (roles_in other) ≡ true
    → (q : ℕ) → q < max_roles → in_set other q ≡ true → p q ≡ true
each_role p other e q h m = all_mem p e ((roles_mem other q).1 (h, m))

all_roles :
    (p : ℕ → Bool) (other : ℕ) → ((q : ℕ) → q < max_roles → in_set other q ≡ true → p q ≡ true)
    → all p (roles_in other) ≡ true
all_roles p other f = all_in p (roles_in other) (λ q m. let r = (roles_mem other q).0 m in f q r.0 r.1)

module _ (set other : ℕ) (fits : other < 2 ^ max_roles) where
  -- the set has every role of the other
  every_one : eqb (bit_and set other) other ≡ all (in_set set) (roles_in other)
  every_one =
      let law = has_all max_roles set other fits in
      same_test
      _
      _
      (λ e. all_roles (in_set set) other (law.0 e))
      (λ e. law.1 (each_role (in_set set) other e))

  -- the set has no role of the other
  not_one : eqb (bit_and set other) 0 ≡ all (λ role. not (in_set set role)) (roles_in other)
  not_one =
      let law = has_none max_roles set other fits in
      let missing : ℕ → Bool = λ role. not (in_set set role) in
      same_test
      _
      _
      (λ e. all_roles missing other (λ q h m. not_of_false (in_set set q) (law.0 e q h m)))
      (λ e. law.1 (λ q h m. not_true (in_set set q) (each_role missing other e q h m)))

pub whole_sets :
    (set wanted barred : ℕ) → wanted < 2 ^ max_roles → barred < 2 ^ max_roles
    → eqb (bit_and set wanted) wanted && eqb (bit_and set barred) 0 ≡ meets_sets set wanted barred
whole_sets set wanted barred h k = rw (every_one set wanted h, not_one set barred k)
