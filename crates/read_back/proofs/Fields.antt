-- Numbers that stand one after the other, in two bytes or in four: where their bytes stand each is read at
-- its place, and where each is read at its place their bytes stand.
use mathlib.Core.Path.{◌≡◌, refl, sym, ◌∙◌, ap}
use mathlib.Core.Bool.{Bool, true}
use mathlib.Core.List.{List, [], ◌∷◌, ◌++◌}
use Prim.Native.Nat.{ℕ, suc, ◌+◌, ◌/◌, ◌%◌, ◌≤◌, ◌<◌}
use native.Mathlib.Numerals.{add-one}
use native.Mathlib.Omega.{arith}
use lib.Dec.{ltb}
use lib.ListN.{length, drop, get_or}
use lib.Seq.{drop-cons, get_or-drop, take-length}
use borrow.Author.Tests.{ltb-true}
use Rattle.orders.specs.Lists.{all}
use Rattle.orders.proofs.Lists.{all_mem}
use Rattle.orders.proofs.Loops.{take_mem}
use Rattle.layout.specs.Bytes.{AreBytes, two, four, two_bytes, four_bytes}
use Rattle.read_back.proofs.Stands.{Stands, stands_first, stands_second, stands_both, stands_nothing}

-- a number in two bytes, or one in four
pub data Field : Type 0 where
  short : ℕ → Field
  long : ℕ → Field

abbrev pub width : Field → ℕ
width (short n) = 2
width (long n) = 4

abbrev pub widths : List Field → ℕ
widths [] = 0
widths (f ∷ l) = width f + widths l

abbrev pub field_bytes : Field → List ℕ
field_bytes (short n) = two_bytes n
field_bytes (long n) = four_bytes n

abbrev pub fields_bytes : List Field → List ℕ
fields_bytes [] = []
fields_bytes (f ∷ l) = field_bytes f ++ fields_bytes l

-- the number is read at the place
abbrev pub ReadAt : List ℕ → ℕ → Field → Type 0
ReadAt s at (short n) = two s at ≡ n
ReadAt s at (long n) = four s at ≡ n

-- each is read k bytes after the place, the next after it
abbrev pub AllRead : List ℕ → ℕ → ℕ → List Field → Type 0
AllRead s at k [] = Unit {0}
AllRead s at k (f ∷ l) = ReadAt s (at + k) f × AllRead s at (k + width f) l

field_width : (f : Field) → length (field_bytes f) ≡ width f
field_width (short n) = refl
field_width (long n) = refl

pub all_at :
    {A : Type 0} (p : A → Bool) (l : List A) (z : A) → all p l ≡ true → (i : ℕ) → i < length l
    → p (get_or l i z) ≡ true
all_at p l z e i h = all_mem p e (rw (take-length l) at (take_mem l (length l) i z h h))

module _ (s : List ℕ) where
  -- ---- what stands is read

  byte_at :
      (at i : ℕ) (bytes : List ℕ) → Stands s at bytes
      → get_or s (at + i) 0 ≡ get_or (bytes ++ drop (at + length bytes) s) i 0
  byte_at at i bytes e = sym (get_or-drop at s i 0) ∙ ap (λ (l : List ℕ). get_or l i 0) e.is

  pub two_read : (at n : ℕ) → Stands s at (two_bytes n) → two s at ≡ n
  two_read at n e =
      let here : at ≡ at + 0 = omega arith in
      let low : get_or s at 0 ≡ n % 256 = ap (λ (k : ℕ). get_or s k 0) here ∙ byte_at at 0 (two_bytes n) e in
      let high : get_or s (at + 1) 0 ≡ n / 256 = byte_at at 1 (two_bytes n) e in
      rw (low, high) (omega arith)

  pub four_read : (at n : ℕ) → Stands s at (four_bytes n) → four s at ≡ n
  four_read at n e =
      let first = two_bytes (n % 65536) in
      let second = two_bytes (n / 65536) in
      let low = two_read at (n % 65536) (stands_first first second e) in
      let high = two_read (at + 2) (n / 65536) (stands_second first second refl e) in
      rw (low, high) (omega arith)

  -- ---- what is read stands

  module _ (bytes : AreBytes s) where
    byte_below : (at : ℕ) → at < length s → get_or s at 0 < 256
    byte_below at h = ltb-true (get_or s at 0) 256 (all_at (λ byte. ltb byte 256) s 0 bytes at h)

    two_stands : (at n : ℕ) → at + 2 ≤ length s → two s at ≡ n → Stands s at (two_bytes n)
    two_stands at n h e =
        let next = add-one at in
        let last : suc (suc at) ≡ at + 2 = omega arith in
        let below = byte_below at (omega arith) in
        let low : get_or s at 0 ≡ n % 256 = omega (arith, e, below) in
        let high : get_or s (at + 1) 0 ≡ n / 256 = omega (arith, e, below) in
        let first : drop at s ≡ get_or s at 0 ∷ drop (suc at) s = drop-cons s at 0 (omega arith) in
        let second : drop (suc at) s ≡ get_or s (suc at) 0 ∷ drop (suc (suc at)) s =
        drop-cons s (suc at) 0 (omega arith) in
        record { is = rw (first, second, last, ← next, low, high) refl }

    pub four_stands : (at n : ℕ) → at + 4 ≤ length s → four s at ≡ n → Stands s at (four_bytes n)
    four_stands at n h e =
        let small : two s at < 65536 =
        omega (arith, byte_below at (omega arith), byte_below (at + 1) (omega arith)) in
        stands_both (two_bytes (n % 65536)) (two_bytes (n / 65536)) refl
        (two_stands at (n % 65536) (omega arith) (omega (arith, e, small)))
        (two_stands (at + 2) (n / 65536) (omega arith) (omega (arith, e, small)))

    field_stands : (f : Field) (at : ℕ) → at + width f ≤ length s → ReadAt s at f → Stands s at (field_bytes f)
    field_stands (short n) at h e = two_stands at n h e
    field_stands (long n) at h e = four_stands at n h e

    pub fields_stand :
        (l : List Field) (at k : ℕ) → at + k + widths l ≤ length s → AllRead s at k l
        → Stands s (at + k) (fields_bytes l)
    fields_stand [] at k h e = stands_nothing (at + k)
    fields_stand (f ∷ l) at k h e =
        stands_both (field_bytes f) (fields_bytes l) (omega (arith, field_width f))
        (field_stands f (at + k) (omega arith) e.0)
        (fields_stand l at (k + width f) (omega arith) e.1)

  -- ---- all fields

  field_read : (f : Field) (at : ℕ) → Stands s at (field_bytes f) → ReadAt s at f
  field_read (short n) at e = two_read at n e
  field_read (long n) at e = four_read at n e

  pub fields_read : (l : List Field) (at k : ℕ) → Stands s (at + k) (fields_bytes l) → AllRead s at k l
  fields_read [] at k e = tt
  fields_read (f ∷ l) at k e = (
    field_read f (at + k) (stands_first (field_bytes f) (fields_bytes l) e),
    fields_read l at (k + width f)
        (stands_second (field_bytes f) (fields_bytes l) (omega (arith, field_width f)) e),
  )
