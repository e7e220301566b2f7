-- Laws of lists with tests: what `any`, `all`, `keep` and `find` say of the members, where a member stands,
-- and relations between earlier and later members. (Members of `map f l`: `Memᴰ·map`, `Memᴰ·of-map` of the
-- library.)
use mathlib.Core.Path.{◌≡◌, refl, sym, ◌∙◌, ap}
use mathlib.Core.Bool.{Bool, true, false, not, ◌&&◌, cond}
use mathlib.Core.Logic.{◌⊎◌, inl, inr, ⊎_elim}
use Rattle.std.specs.Prelude.{None, Some}
use mathlib.Core.List.Memᴰ
use mathlib.Core.List.{List, [], ◌∷◌, ◌++◌}
use Rattle.orders.specs.Lists.{Mem, here, there, any, all, keep, find, Pairwise}
use Rattle.orders.proofs.Tests.{
  by_test,
  clash,
  is_false,
  not_true,
  not_of_false,
  or_true,
  or_left,
  or_right,
  and_true,
  and_both,
}

module _ {A : Type 0} where
  -- ---- some member passes the test

  pub any_true : (p : A → Bool) (l : List A) → any p l ≡ true → (x : A) × Mem x l × (p x ≡ true)
  any_true p [] e = clash e refl
  any_true p (x ∷ l) e =
      ⊎_elim
      (λ h. (x, here refl, h))
      (λ h. let r = any_true p l h in (r.0, there r.1, r.2))
      (or_true (p x) (any p l) e)

  pub any_mem : (p : A → Bool) {x : A} {l : List A} → Mem x l → p x ≡ true → any p l ≡ true
  any_mem p (here {x = y} {xs = l} e) h = or_left (p y) (any p l) (rw e at h)
  any_mem p (there {x = y} {xs = l} m) h = or_right (p y) (any p l) (any_mem p m h)

  pub any_false : (p : A → Bool) {l : List A} {x : A} → any p l ≡ false → Mem x l → p x ≡ false
  any_false p {x = x} e m = is_false (p x) (λ h. clash (any_mem p m h) e)

  pub none_any : (p : A → Bool) (l : List A) → ((x : A) → Mem x l → p x ≡ false) → any p l ≡ false
  none_any p l f = is_false (any p l) (λ e. let r = any_true p l e in clash r.2 (f r.0 r.1))

  -- no member passes both tests
  pub none_both :
      (p q : A → Bool) (l : List A) → not (any (λ x. p x && q x) l) ≡ true
      → (x : A) → Mem x l → p x ≡ true → q x ≡ false
  none_both p q l e x m h =
      let none : any (λ y. p y && q y) l ≡ false = not_true (any (λ y. p y && q y) l) e in
      is_false (q x) (λ k. clash (any_mem (λ y. p y && q y) m (and_both (p x) (q x) h k)) none)

  pub both_none :
      (p q : A → Bool) (l : List A) → ((x : A) → Mem x l → p x ≡ true → q x ≡ false)
      → not (any (λ x. p x && q x) l) ≡ true
  both_none p q l f =
      not_of_false (any (λ y. p y && q y) l) (none_any (λ y. p y && q y) l one)
    where
      one : (x : A) → Mem x l → p x && q x ≡ false
      one x m =
          is_false (p x && q x) (λ e. let r = and_true (p x) (q x) e in clash r.1 (f x m r.0))

  -- ---- every member passes the test

  pub all_mem : (p : A → Bool) {x : A} {l : List A} → all p l ≡ true → Mem x l → p x ≡ true
  all_mem p e (here {x = y} {xs = l} q) = ap p q ∙ (and_true (p y) (all p l) e).0
  all_mem p e (there {x = y} {xs = l} m) = all_mem p (and_true (p y) (all p l) e).1 m

  pub all_in : (p : A → Bool) (l : List A) → ((x : A) → Mem x l → p x ≡ true) → all p l ≡ true
  all_in p [] f = refl
  all_in p (x ∷ l) f = and_both (p x) (all p l) (f x (here refl)) (all_in p l (λ y m. f y (there m)))

  pub all_false : (p : A → Bool) (l : List A) → all p l ≡ false → (x : A) × Mem x l × (p x ≡ false)
  all_false p [] e = clash refl e
  all_false p (x ∷ l) e =
      by_test
      (p x)
      (λ t. let r = all_false p l (rw t at e) in (r.0, there r.1, r.2))
      (λ f. (x, here refl, f))

  -- ---- the members that pass the test

  pub keep_mem : (p : A → Bool) (l : List A) {y : A} → Mem y (keep p l) → Mem y l × (p y ≡ true)
  keep_mem p [] {y = y} m = elim m [ ]
  keep_mem p (x ∷ l) {y} m = go (λ n. let r = keep_mem p l n in (there r.0, r.1)) (p x) refl m
    where
      go :
          (Mem y (keep p l) → Mem y (x ∷ l) × (p y ≡ true)) → (b : Bool) → p x ≡ b
          → Mem y (cond b (x ∷ keep p l) (keep p l)) → Mem y (x ∷ l) × (p y ≡ true)
      go f true e (here q) = (here q, ap p q ∙ e)
      go f true e (there n) = f n
      go f false e n = f n

  pub keep_in : (p : A → Bool) {y : A} {l : List A} → Mem y l → p y ≡ true → Mem y (keep p l)
  keep_in p (here q) h = rw (sym (ap p q) ∙ h) (here q)
  keep_in p {y} (there {x = x} {xs = l} m) h = go (p x) (keep_in p m h)
    where
      go : (b : Bool) → Mem y (keep p l) → Mem y (cond b (x ∷ keep p l) (keep p l))
      go true k = there k
      go false k = k

  -- ---- the first member that passes the test

  -- no member passes
  pub record FindsNone (p : A → Bool) (l : List A) : Type 0 where
    pub finds : find p l ≡ None
    pub missed : any p l ≡ false

  -- x is the first to pass
  pub record Finds (p : A → Bool) (l : List A) : Type 0 where
    pub earlier : List A
    pub x : A
    pub later : List A
    pub finds : find p l ≡ Some x
    pub is : l ≡ earlier ++ (x ∷ later)
    pub missed : any p earlier ≡ false
    pub passes : p x ≡ true

  pub find_case : (p : A → Bool) (l : List A) → FindsNone p l ⊎ Finds p l
  find_case p [] = inl (record { finds = refl; missed = refl })
  find_case p (x ∷ l) = by_test (p x) now (λ f. ⊎_elim (not_yet f) (further f) (find_case p l))
    where
      now : p x ≡ true → FindsNone p (x ∷ l) ⊎ Finds p (x ∷ l)
      now e =
          inr
          (record { earlier = []; x = x; later = l; finds = rw e; is = refl; missed = refl; passes = e })

      not_yet : p x ≡ false → FindsNone p l → FindsNone p (x ∷ l) ⊎ Finds p (x ∷ l)
      not_yet f r = inl (record { finds = rw f r.finds; missed = rw f r.missed })

      further : p x ≡ false → Finds p l → FindsNone p (x ∷ l) ⊎ Finds p (x ∷ l)
      further f r =
          inr
          (record {
            earlier = x ∷ r.earlier;
            x = r.x;
            later = r.later;
            finds = rw f r.finds;
            is = ap (λ (t : List A). x ∷ t) r.is;
            missed = rw f r.missed;
            passes = r.passes;
          })

  -- ---- where a member stands

  pub split : {x : A} {l : List A} → Mem x l → (a : List A) × (b : List A) × (l ≡ a ++ (x ∷ b))
  split (here {xs = l} e) = ([], l, rw e)
  split (there {x = y} m) = let r = split m in (y ∷ r.0, r.1, ap (λ (t : List A). y ∷ t) r.2)

  pub mid : (a : List A) {x : A} (b : List A) → Mem x (a ++ (x ∷ b))
  mid a b = Memᴰ.append_right a (here refl)

  pub at_cons : {P : Type 0} {x y : A} {b : List A} → (y ≡ x → P) → (Mem y b → P) → Mem y (x ∷ b) → P
  at_cons g k (here e) = g e
  at_cons g k (there m) = k m

  -- a member of `a ++ (x ∷ b)` is in a, or is x, or is in b
  pub at_mid :
      {P : Type 0} {x y : A} {b : List A} (a : List A) → (Mem y a → P) → (y ≡ x → P) → (Mem y b → P)
      → Mem y (a ++ (x ∷ b)) → P
  at_mid a f g k m = ⊎_elim f (at_cons g k) (Memᴰ.append_cases a m)

  pub under : {x z : A} {l k : List A} → (Mem z l → Mem z k) → Mem z (x ∷ l) → Mem z (x ∷ k)
  under f (here e) = here e
  under f (there m) = there (f m)

  pub no_members : (l : List A) → ((y : A) → Mem y l → ⊥) → l ≡ []
  no_members [] f = refl
  no_members (x ∷ l) f = absurd (f x (here refl))

  -- ---- earlier and later members

  module _ (R : A → A → Type 0) where
    pub pairwise_keep : (p : A → Bool) (l : List A) → Pairwise R l → Pairwise R (keep p l)
    pairwise_keep p [] h = tt
    pairwise_keep p (x ∷ l) h = go (p x) (pairwise_keep p l h.1)
      where
        go : (b : Bool) → Pairwise R (keep p l) → Pairwise R (cond b (x ∷ keep p l) (keep p l))
        go true k = (λ y m. h.0 y (keep_mem p l m).0, k)
        go false k = k

    pub pairwise_append :
        (a b : List A) → Pairwise R a → Pairwise R b → ((x y : A) → Mem x a → Mem y b → R x y)
        → Pairwise R (a ++ b)
    pairwise_append [] b h k c = k
    pairwise_append (x ∷ a) b h k c = (
      λ y m. ⊎_elim (h.0 y) (c x y (here refl)) (Memᴰ.append_cases a m),
      pairwise_append a b h.1 k (λ u v m n. c u v (there m) n),
    )

    pub pairwise_left : (a b : List A) → Pairwise R (a ++ b) → Pairwise R a
    pairwise_left [] b h = tt
    pairwise_left (x ∷ a) b h = (λ y m. h.0 y (Memᴰ.append_left b m), pairwise_left a b h.1)

    pub pairwise_right : (a b : List A) → Pairwise R (a ++ b) → Pairwise R b
    pairwise_right [] b h = h
    pairwise_right (x ∷ a) b h = pairwise_right a b h.1

    pub pairwise_across : (a b : List A) → Pairwise R (a ++ b) → {x y : A} → Mem x a → Mem y b → R x y
    pairwise_across [] b h {y = y} x5 n = elim x5 [ ]
    pairwise_across (z ∷ a) b h {y = y} (here e) n = rw e (h.0 y (Memᴰ.append_right a n))
    pairwise_across (z ∷ a) b h (there m) n = pairwise_across a b h.1 m n

    -- a relation that follows from R, and two relations at once
    pub pairwise_map :
        (S : A → A → Type 0) → ((x y : A) → R x y → S x y) → (l : List A) → Pairwise R l → Pairwise S l
    pairwise_map S f [] h = tt
    pairwise_map S f (x ∷ l) h = (λ y m. f x y (h.0 y m), pairwise_map S f l h.1)

    pub pairwise_both :
        (S : A → A → Type 0) (l : List A) → Pairwise R l → Pairwise S l → Pairwise (λ x y. R x y × S x y) l
    pairwise_both S [] h k = tt
    pairwise_both S (x ∷ l) h k = (λ y m. (h.0 y m, k.0 y m), pairwise_both S l h.1 k.1)
