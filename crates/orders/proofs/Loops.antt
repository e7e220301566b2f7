-- What a loop over the first places of an array says: `take i l` are the places done, `get_or l i d` the one at
-- hand. One place more adds one test to `any`.
use mathlib.Core.Path.{◌≡◌, refl, sym, ◌∙◌, ap}
use mathlib.Core.Bool.{Bool, true, false, ◌||◌}
use mathlib.Core.List.{List, [], ◌∷◌, map}
use Prim.Native.Nat.{ℕ, zero, suc, ◌+◌, ◌<◌}
use native.Mathlib.Nat.{le_of_suc-le-suc, not-suc-le-zero}
use native.Mathlib.Numerals.{add-one}
use native.Mathlib.Omega.{arith}
use lib.ListN.{length, get_or, take}
use Rattle.orders.specs.Lists.{Mem, here, there, any}
use Rattle.orders.proofs.Tests.{or_neither}
use Rattle.orders.proofs.Lists.{any_mem}

or_assoc : (a b c : Bool) → a || (b || c) ≡ (a || b) || c
or_assoc true b c = refl
or_assoc false b c = refl

pub or_nothing : (b : Bool) → b || false ≡ b
or_nothing true = refl
or_nothing false = refl

-- what stands at a place of a list to which f was applied
pub get_d_map :
    {A B : Type 0} (f : A → B) (l : List A) (i : ℕ) (z : B) (d : A) → i < length l
    → get_or (map f l) i z ≡ f (get_or l i d)
get_d_map f [] i z d h = absurd (not-suc-le-zero h)
get_d_map f (x ∷ l) zero z d h = refl
get_d_map f (x ∷ l) (suc i) z d h = get_d_map f l i z d (le_of_suc-le-suc h)

module _ {A : Type 0} where
  -- a place among the first n holds one of the first n
  pub take_mem : (l : List A) (n i : ℕ) (d : A) → i < n → i < length l → Mem (get_or l i d) (take n l)
  take_mem [] n i d h k = absurd (not-suc-le-zero k)
  take_mem (x ∷ l) zero i d h k = absurd (not-suc-le-zero h)
  take_mem (x ∷ l) (suc n) zero d h k = here refl
  take_mem (x ∷ l) (suc n) (suc i) d h k =
      there (take_mem l n i d (le_of_suc-le-suc h) (le_of_suc-le-suc k))

  -- and each of the first n stands at such a place
  pub mem_take :
      (l : List A) (n : ℕ) (d : A) {x : A} → Mem x (take n l)
      → (i : ℕ) × (i < n) × (i < length l) × (get_or l i d ≡ x)
  mem_take [] zero d m = elim m [ ]
  mem_take [] (suc n) d m = elim m [ ]
  mem_take (y ∷ l) zero d m = elim m [ ]
  mem_take (y ∷ l) (suc n) d (here e) = (zero, omega arith, omega arith, sym e)
  mem_take (y ∷ l) (suc n) d (there m) =
      let r = mem_take l n d m in
      let h = r.1 in
      let k = r.2 in
      (suc r.0, omega arith, omega arith, r.3)

  -- ---- some place passes the test

  pub any_next :
      (p : A → Bool) (l : List A) (i : ℕ) (d : A) → i < length l
      → any p (take (i + 1) l) ≡ any p (take i l) || p (get_or l i d)
  any_next p l i d h = rw add-one (go l i h)
    where
      go :
          (l : List A) (i : ℕ) → i < length l → any p (take (suc i) l) ≡ any p (take i l) || p (get_or l i d)
      go [] i h = absurd (not-suc-le-zero h)
      go (x ∷ l) zero h = or_nothing (p x)
      go (x ∷ l) (suc i) h =
          ap (λ (b : Bool). p x || b) (go l i (le_of_suc-le-suc h))
          ∙ or_assoc (p x) (any p (take i l)) (p (get_or l i d))

  pub none_next :
      (p : A → Bool) (l : List A) (i : ℕ) (d : A) → i < length l → any p (take i l) ≡ false
      → p (get_or l i d) ≡ false → any p (take (i + 1) l) ≡ false
  none_next p l i d h e f = any_next p l i d h ∙ or_neither (any p (take i l)) (p (get_or l i d)) e f

  pub some_at :
      (p : A → Bool) (l : List A) (n i : ℕ) (d : A) → i < n → i < length l → p (get_or l i d) ≡ true
      → any p (take n l) ≡ true
  some_at p l n i d h k e = any_mem p (take_mem l n i d h k) e
