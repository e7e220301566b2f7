-- Records that rise: where each is below the next it is below all later ones, since "below" is transitive,
-- and two of which one is below the other differ. A part of a board has records in range that rise.
use mathlib.Core.Path.{◌≡◌, refl}
use mathlib.Core.Logic.{◌⊎◌, inl, inr, ⊎_elim}
use mathlib.Core.Bool.{Bool, true, ◌&&◌}
use mathlib.Core.List.{List, [], ◌∷◌}
use Prim.Native.Nat.{ℕ, ◌<◌}
use native.Mathlib.Omega.{arith}
use lib.Dec.{eqb, ltb}
use borrow.Author.Tests.{ltb-true, eqb-true, lt-ltb, eq-eqb}
use Rattle.orders.specs.Lists.{Mem, here, all, Pairwise}
use Rattle.orders.proofs.Tests.{and_left, and_right, and_both, or_true, or_left, or_right}
use Rattle.orders.proofs.Lists.{all_mem, all_in, at_cons, pairwise_map}
use Rattle.board.specs.Good.{pair_below, rising, part_fits}

-- ---- below

pair→order : (a b c d : ℕ) → pair_below a b c d ≡ true → (a < c) ⊎ ((a ≡ c) × (b < d))
pair→order a b c d e =
    ⊎_elim
    (λ h. inl (ltb-true a c h))
    (λ h. inr (search (and_left, and_right, eqb-true, ltb-true)))
    (or_true (ltb a c) (eqb a c && ltb b d) e)

order→pair : (a b c d : ℕ) → (a < c) ⊎ ((a ≡ c) × (b < d)) → pair_below a b c d ≡ true
order→pair a b c d h =
    ⊎_elim
    (λ k. or_left (ltb a c) (eqb a c && ltb b d) (lt-ltb a c k))
    (λ k. or_right (ltb a c) (eqb a c && ltb b d) (search (and_both, eq-eqb, lt-ltb)))
    h

pub pair_trans :
    (a b c d e f : ℕ) → pair_below a b c d ≡ true → pair_below c d e f ≡ true → pair_below a b e f ≡ true
pair_trans a b c d e f p q =
    order→pair a b e f
    (⊎_elim
    (λ h. ⊎_elim (λ k. inl (omega arith)) (λ k. inl (omega arith)) (pair→order c d e f q))
    (λ h. ⊎_elim (λ k. inl (omega arith)) (λ k. inr (omega arith, omega arith)) (pair→order c d e f q))
    (pair→order a b c d p))

pub ltb_trans : (a b c : ℕ) → ltb a b ≡ true → ltb b c ≡ true → ltb a c ≡ true
ltb_trans a b c p q = lt-ltb a c (omega (arith, ltb-true))

-- two pairs of which one is below the other differ
pub pair_differs : (a b c d : ℕ) → pair_below a b c d ≡ true → a ≡ c → b ≡ d → ⊥
pair_differs a b c d e p q = ⊎_elim (λ h. omega arith) (λ h. omega arith) (pair→order a b c d e)

-- ---- rising

module _ {A : Type 0} (below : A → A → Bool) where
  pub rising→pairwise :
      ((x y z : A) → below x y ≡ true → below y z ≡ true → below x z ≡ true)
      → (l : List A) → rising below l ≡ true → Pairwise (λ x y. below x y ≡ true) l
  rising→pairwise trans [] e = tt
  rising→pairwise trans (x ∷ []) e = (λ y m. elim m [ ], tt)
  rising→pairwise trans (x ∷ (y ∷ l)) e =
      let first = and_left (below x y) (rising below (y ∷ l)) e in
      let rest = rising→pairwise trans (y ∷ l) (and_right (below x y) (rising below (y ∷ l)) e) in
      (λ z m. at_cons (λ q. rw q first) (λ n. trans x y z first (rest.0 z n)) m, rest)

  pub pairwise→rising : (l : List A) → Pairwise (λ x y. below x y ≡ true) l → rising below l ≡ true
  pairwise→rising [] h = refl
  pairwise→rising (x ∷ []) h = refl
  pairwise→rising (x ∷ (y ∷ l)) h =
      and_both (below x y) (rising below (y ∷ l)) (h.0 y (here refl)) (pairwise→rising (y ∷ l) h.1)

-- ---- a part of the board

-- each record of a part is in range, and stands above all earlier ones
pub record Part {A : Type 0} (InRange : A → Type 0) (Below : A → A → Type 0) (l : List A) : Type 0 where
  pub each : (x : A) → Mem x l → InRange x
  pub rise : Pairwise Below l

module _ {A : Type 0} (fits : A → Bool) (below : A → A → Bool) (l : List A) where
  pub fits→part :
      {InRange : A → Type 0} {Below : A → A → Type 0} → ((x : A) → fits x ≡ true → InRange x)
      → ((x y : A) → below x y ≡ true → Below x y)
      → ((x y z : A) → below x y ≡ true → below y z ≡ true → below x z ≡ true) → part_fits fits below l ≡ true
      → Part InRange Below l
  fits→part {Below = Below} f g trans e =
      let fit : all fits l ≡ true = and_left (all fits l) (rising below l) e in
      let rise : rising below l ≡ true = and_right (all fits l) (rising below l) e in
      record {
        each = λ x m. f x (all_mem fits fit m);
        rise = pairwise_map (λ x y. below x y ≡ true) Below g l (rising→pairwise below trans l rise);
      }

  pub part→fits :
      {InRange : A → Type 0} {Below : A → A → Type 0} → ((x : A) → InRange x → fits x ≡ true)
      → ((x y : A) → Below x y → below x y ≡ true) → Part InRange Below l → part_fits fits below l ≡ true
  part→fits {Below = Below} f g p =
      and_both (all fits l) (rising below l)
      (all_in fits l (λ x m. f x (p.each x m)))
      (pairwise→rising below l (pairwise_map Below (λ x y. below x y ≡ true) g l p.rise))
