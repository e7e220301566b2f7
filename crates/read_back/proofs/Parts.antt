-- A part of a file: records of one size, one after the other. Where the part stands each record stands at its
-- place, and where each stands at its place so does the part.
use mathlib.Core.Path.{◌≡◌, refl, sym, ◌∙◌, ap, subst}
use mathlib.Core.List.{List, [], ◌∷◌, ◌++◌, map, map-append, append-nil}
use Prim.Native.Nat.{ℕ, zero, suc, ◌+◌, ◌*◌, ◌≤◌, ◌<◌}
use native.Mathlib.Omega.{arith}
use lib.ListN.{length, take, get_or}
use lib.Seq.{take-suc, take_all}
use Rattle.board.specs.Permitted.{below}
use Rattle.file.proofs.Filled.{records_length}
use Rattle.save.specs.FileOf.{part}
use Rattle.save.proofs.PartLaws.{part_append, part_length}
use Rattle.read_back.proofs.Stands.{Stands, stands_first, stands_second, stands_both, stands_nothing}

-- ---- records by number

-- these are the records, by their numbers
pub by_number :
    {A : Type 0} (at : ℕ → A) (l : List A) (z : A) (n : ℕ) → length l ≡ n
    → ((i : ℕ) → i < n → at i ≡ get_or l i z) → map at (below n) ≡ l
by_number {A = A} at l z n e same = first n (omega arith) ∙ take_all n l (omega arith)
  where
    first : (i : ℕ) → i ≤ n → map at (below i) ≡ take i l
    first zero h = refl
    first (suc i) h =
        map-append at (below i) (i ∷ [])
        ∙ ap (λ (k : List A). k ++ (at i ∷ [])) (first i (omega arith))
        ∙ ap (λ (x : A). take i l ++ (x ∷ [])) (same i (omega arith))
        ∙ sym (take-suc l i z (omega arith))

module _ {A : Type 0} (bytes : A → List ℕ) (size : ℕ) (sized : (x : A) → length (bytes x) ≡ size) where
  one_more :
      (at : ℕ → A) (n : ℕ)
      → part bytes (map at (below (suc n))) ≡ part bytes (map at (below n)) ++ bytes (at n)
  one_more at n =
      ap (part bytes) (map-append at (below n) (n ∷ []))
      ∙ part_append bytes (map at (below n)) (at n ∷ [])
      ∙ ap (λ (l : List ℕ). part bytes (map at (below n)) ++ l) (append-nil (bytes (at n)))

  -- how long the first n records are
  pub numbered_length : (at : ℕ → A) (n : ℕ) → length (part bytes (map at (below n))) ≡ n * size
  numbered_length at n =
      part_length bytes size sized (map at (below n)) ∙ ap (λ (k : ℕ). k * size) (records_length at n)

  module _ (s : List ℕ) where
    -- each record of a part that stands
    pub record_stands :
        (l : List A) (z : A) (from i : ℕ) → Stands s from (part bytes l) → i < length l
        → Stands s (from + i * size) (bytes (get_or l i z))
    record_stands [] z from i e h = absurd (omega arith)
    record_stands (x ∷ l) z from zero e h =
        subst (λ (place : ℕ). Stands s place (bytes x)) (omega arith)
        (stands_first (bytes x) (part bytes l) e)
    record_stands (x ∷ l) z from (suc i) e h =
        subst (λ (place : ℕ). Stands s place (bytes (get_or l i z)))
        (omega (arith, sized x))
        (record_stands l z (from + length (bytes x)) i
        (stands_second (bytes x) (part bytes l) refl e) (omega arith))

    -- a part of records that stand
    pub part_stands :
        (at : ℕ → A) (from n : ℕ) → ((i : ℕ) → i < n → Stands s (from + i * size) (bytes (at i)))
        → Stands s from (part bytes (map at (below n)))
    part_stands at from zero each = stands_nothing from
    part_stands at from (suc n) each =
        subst (Stands s from) (sym (one_more at n))
        (stands_both (part bytes (map at (below n))) (bytes (at n))
        (ap (λ (k : ℕ). from + k) (numbered_length at n))
        (part_stands at from n (λ i h. each i (omega arith)))
        (each n (omega arith)))
