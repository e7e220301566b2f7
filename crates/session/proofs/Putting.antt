-- An entry of a list set to what it was.
use mathlib.Core.Path.{◌≡◌, refl}
use mathlib.Core.Bool.{Bool, true, false, cond}
use mathlib.Core.List.{List}
use Prim.Native.Nat.{ℕ}
use lib.ListN.{get_or, set}
use Rattle.std.proofs.lemmas.List.{set-get_or}

module _ {A : Type 0} where
  pub same_entry :
      (l : List A) (at : ℕ) (d : A) (within : Bool) → cond within (set l at (get_or l at d)) l ≡ l
  same_entry l at d true = set-get_or l at d
  same_entry l at d false = refl
