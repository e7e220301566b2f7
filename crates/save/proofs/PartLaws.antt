-- The records of a part put in turn: each stands where those before it end, and has room where the part has.
use mathlib.Core.Path.{◌≡◌}
use mathlib.Core.List.{List, [], ◌∷◌, ◌++◌, append-nil}
use Prim.Native.Nat.{ℕ, ◌+◌, ◌*◌, ◌<◌}
use native.Mathlib.Numerals.{add-one}
use native.Mathlib.Omega.{arith}
use lib.ListN.{length, take, get_or, length-append}
use lib.Seq.{take-suc}
use Rattle.std.proofs.lemmas.Grind.{flat_map-append}
use Rattle.save.specs.FileOf.{part}

module _ {A : Type 0} (bytes : A → List ℕ) where
  pub part_append : (a b : List A) → part bytes (a ++ b) ≡ part bytes a ++ part bytes b
  part_append a b = flat_map-append bytes a b

  pub part_length :
      (size : ℕ) → ((x : A) → length (bytes x) ≡ size) → (l : List A)
      → length (part bytes l) ≡ length l * size
  part_length size f [] = omega arith
  part_length size f (x ∷ l) =
      rw (length-append, f x, part_length size f l) (omega arith)

  pub part_next :
      (l : List A) (i : ℕ) (x : A) → x ≡ get_or l i x → i < length l
      → part bytes (take (i + 1) l) ≡ part bytes (take i l) ++ bytes x
  part_next l i x item within =
      rw (add-one, take-suc l i x, part_append (take i l) (get_or l i x ∷ []), ← item, append-nil (bytes x))
