-- The loops that put at each place what f makes of the setter there: after i turns the first i have it.
use mathlib.Core.Path.{◌≡◌, refl, sym, ◌∙◌}
use mathlib.Core.List.{List, [], ◌∷◌, map, map-append}
use Prim.Native.Nat.{ℕ, ◌+◌, ◌≤◌, ◌<◌}
use native.Mathlib.Numerals.{add-one}
use native.Mathlib.Omega.{arith}
use lib.ListN.{length, take, get_or, set, replicate, length-set, length-replicate}
use lib.Seq.{take_all, take-suc, take-suc-set}
use Rattle.board.specs.Limits.{max_duties}
use Rattle.troubles.specs.declared.setting.Setter.{Setter}

pub record Filled (f : Setter → ℕ) (setters : List Setter) (i : ℕ) (out : List ℕ) : Type 0 where
  pub long : length out ≡ max_duties
  pub are : take i out ≡ map f (take i setters)

module _ {f : Setter → ℕ} {setters : List Setter} where
  pub filled_starts : {x : ℕ} → Filled f setters 0 (replicate max_duties x)
  filled_starts {x} = record { long = length-replicate max_duties x; are = refl }

  pub filled_next :
      {i x : ℕ} {out : List ℕ} → Filled f setters i out → i < length setters → length setters ≤ max_duties
      → (z : Setter) → x ≡ f (get_or setters i z) → Filled f setters (i + 1) (set out i x)
  filled_next {i} {x} {out} known h few z e =
      let long = known.long in
      record {
        long = length-set out i x ∙ known.long;
        are =
            rw
            (add-one i, take-suc-set out i x (omega arith), take-suc setters i z h, known.are, e)
            (sym (map-append f (take i setters) (get_or setters i z ∷ [])));
      }

  pub filled_all :
      {i : ℕ} {out : List ℕ} → Filled f setters i out → i ≡ length setters
      → take (length setters) out ≡ map f setters
  filled_all {i} {out} known e =
      let whole : take i setters ≡ setters = take_all i setters (omega arith) in
      rw (sym e) (rw whole at known.are)
