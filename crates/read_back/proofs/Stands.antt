-- Bytes that stand at a place of a file: the relation between the reader's side, which reads numbers at
-- places, and the writer's, which puts bytes one after the other. It splits and joins like the lists.
use mathlib.Core.Path.{◌≡◌, sym, ◌∙◌, ap}
use mathlib.Core.List.{List, [], ◌++◌, append_assoc, append-nil}
use Prim.Native.Nat.{ℕ, ◌+◌}
use native.Mathlib.Omega.{arith}
use lib.ListN.{length, drop, length-append, drop_of_length-le}
use lib.Seq.{drop-append_seam, drop-drop}

-- from the place on, the file has these bytes, and then the rest
pub record Stands (s : List ℕ) (at : ℕ) (bytes : List ℕ) : Type 0 where
  pub is : drop at s ≡ bytes ++ drop (at + length bytes) s

-- ---- split and join

beyond : (s : List ℕ) (at : ℕ) (a rest : List ℕ) → drop at s ≡ a ++ rest → drop (at + length a) s ≡ rest
beyond s at a rest e = sym (drop-drop (length a) at s) ∙ ap (drop (length a)) e ∙ drop-append_seam a rest

longer : (at : ℕ) (a b : List ℕ) → at + length (a ++ b) ≡ at + length a + length b
longer at a b = omega (arith, length-append a b)

module _ {s : List ℕ} where
  module _ {at : ℕ} (a b : List ℕ) where
    pub stands_first : Stands s at (a ++ b) → Stands s at a
    stands_first e =
        let split : drop at s ≡ a ++ (b ++ drop (at + length (a ++ b)) s) = e.is ∙ append_assoc a b _ in
        record { is = rw (beyond s at a _ split) split }

    pub stands_second : {to : ℕ} → at + length a ≡ to → Stands s at (a ++ b) → Stands s to b
    stands_second h e =
        let split : drop at s ≡ a ++ (b ++ drop (at + length (a ++ b)) s) = e.is ∙ append_assoc a b _ in
        rw (← h) (record { is = beyond s at a _ split ∙ ap (λ (n : ℕ). b ++ drop n s) (longer at a b) })

    pub stands_both : {to : ℕ} → at + length a ≡ to → Stands s at a → Stands s to b → Stands s at (a ++ b)
    stands_both h e f =
        let second : drop (at + length a) s ≡ b ++ drop (at + length a + length b) s = rw h f.is in
        record {
          is =
              e.is
              ∙ ap (λ (l : List ℕ). a ++ l) second
              ∙ sym (append_assoc a b _)
              ∙ ap (λ (n : ℕ). (a ++ b) ++ drop n s) (sym (longer at a b));
        }

  pub stands_nothing : (at : ℕ) → Stands s at []
  stands_nothing at =
      let same : at ≡ at + 0 = omega arith in record { is = ap (λ (n : ℕ). drop n s) same }

-- ---- the whole

module _ (s : List ℕ) where
  pub stands_whole : Stands s 0 s
  stands_whole =
      let over : drop (0 + length s) s ≡ [] = drop_of_length-le s {i = 0 + length s} (omega arith) in
      record { is = sym (append-nil s) ∙ ap (λ (l : List ℕ). s ++ l) (sym over) }

  pub whole_is : (l : List ℕ) → Stands s 0 l → length s ≡ length l → s ≡ l
  whole_is l e h =
      let over : drop (0 + length l) s ≡ [] = drop_of_length-le s {i = 0 + length l} (omega arith) in
      e.is ∙ ap (λ (k : List ℕ). l ++ k) over ∙ append-nil l
