-- Lists with tests: membership, some, all, keep, find, and pairs of earlier and later members.
use Rattle.std.specs.Prelude.{Bool, cond, List, [], ◌∷◌}
pub use mathlib.Core.List.Memᴰ.{head as here}
pub use mathlib.Core.List.Memᴰ.{tail as there}
pub use mathlib.Core.List.{Memᴰ as Mem}
-- some member passes the test; every member does; the first member that does
pub use Rattle.std.specs.List.{list_any as any, list_all as all, find}

-- the members that pass the test, in the order in which they stand
abbrev pub keep : {A : Type 0} → (A → Bool) → List A → List A
keep p [] = []
keep p (x ∷ l) = cond (p x) (x ∷ keep p l) (keep p l)

-- every member stands in the relation to every later one
abbrev pub Pairwise : {A : Type 0} → (A → A → Type 0) → List A → Type 0
Pairwise R [] = Unit {0}
Pairwise {A} R (x ∷ l) = ((y : A) → Mem y l → R x y) × Pairwise R l
