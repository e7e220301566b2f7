-- A loop that looks for the first member, among the first n of a list, that passes a test. It goes up to k,
-- the lesser of n and the list's length. It keeps this: what is left at place i finds what the whole finds.
use mathlib.Core.Path.{◌≡◌, ◌∙◌}
use mathlib.Core.Bool.{Bool, true, false}
use Rattle.std.specs.Prelude.{None, Some}
use mathlib.Core.List.{List, ◌∷◌}
use Prim.Native.Nat.{ℕ, ◌+◌, ◌≤◌, ◌<◌, min}
use native.Mathlib.Omega.{arith}
use native.Mathlib.Numerals.{add-one}
use lib.ListN.{length, take, drop, get_or, length-take, drop_of_length-le}
use lib.Seq.{drop-cons, get_or-take}
use Rattle.orders.specs.Lists.{find}

-- what is left at place i finds what the whole finds
pub record Left {A : Type 0} (p : A → Bool) (l : List A) (n i : ℕ) : Type 0 where
  pub same : find p (take n l) ≡ find p (drop i (take n l))

-- what is left is the member at hand and the rest
next :
    {A : Type 0} (l : List A) (n i : ℕ) (d : A) → i < n → i < length l
    → drop i (take n l) ≡ get_or l i d ∷ drop (i + 1) (take n l)
next l n i d h k = rw (add-one i) (drop-cons (take n l) i d (rw length-take (omega arith)) ∙ rw get_or-take)

module _
    {A : Type 0} {p : A → Bool} {l : List A} {n i k : ℕ} (left : Left p l n i) (bound : k ≡ min n (length l))
  where
    pub hit : (d : A) → i < k → p (get_or l i d) ≡ true → find p (take n l) ≡ Some (get_or l i d)
    hit d h e = left.same ∙ rw (next l n i d (omega arith) (omega arith), e)

    pub skip : (d : A) → i < k → p (get_or l i d) ≡ false → Left p l n (i + 1)
    skip d h e = record { same = left.same ∙ rw (next l n i d (omega arith) (omega arith), e) }

    pub over : k ≤ i → find p (take n l) ≡ None
    over h = left.same ∙ rw (drop_of_length-le (take n l) {i = i} (rw length-take (omega arith)))
