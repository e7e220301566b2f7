-- The place that a search by halving finds among numbers: the one before it is below what is sought, the one
-- at it is not. Among rising numbers that is one place alone.
use Rattle.std.specs.Prelude.{◌≡◌, List, ℕ, ◌+◌, ◌≤◌, ◌<◌, get_or}

-- among the first n
pub record Halved (keys : List ℕ) (n sought place : ℕ) : Type 0 where
  pub inside : place ≤ n
  pub lower : (i : ℕ) → i + 1 ≡ place → get_or keys i 0 < sought
  pub higher : place < n → sought ≤ get_or keys place 0
