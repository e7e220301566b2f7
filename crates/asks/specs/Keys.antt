-- Two numbers in one, and records that rise by two numbers.
use Rattle.std.specs.Prelude.{◌≡◌, true, List, ℕ, ◌+◌, ◌*◌, ◌<◌}
use Rattle.orders.specs.Lists.{Mem, Pairwise}
use Rattle.board.specs.declared.Permission.{Permission}
use Rattle.board.specs.declared.Rule.{Rule}
use Rattle.board.specs.Good.{pair_below}

-- every second number is below this
abbrev pub span : ℕ
span = 65536

-- it rises by the first number, then by the second
abbrev pub key_of : ℕ → ℕ → ℕ
key_of first second = first * span + second

abbrev pub permission_key : Permission → ℕ
permission_key p = key_of p.action p.object

abbrev pub rule_key : Rule → ℕ
rule_key r = key_of r.kind r.role

-- each record is above the one before it, and its second number is small
pub record Rising {A : Type 0} (first second : A → ℕ) (records : List A) : Type 0 where
  pub small : (x : A) → Mem x records → second x < span
  pub rise : Pairwise (λ x y. pair_below (first x) (second x) (first y) (second y) ≡ true) records
