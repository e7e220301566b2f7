-- The plain walk of every order: it does each duty that may come next and then walks the rest in the same
-- way, lower serials first. It finds the first failing order, if there is one. That it finds none exactly on
-- a green board, and that what it finds is the least failing order by serials, is proved in
-- proofs/Plain.antt.
use Rattle.std.specs.Prelude.{◌≡◌, ◌⊎◌, Bool, not, cond, List, [], ◌∷◌, ℕ, zero, suc, ◌<◌}
use Rattle.std.specs.Prelude.{Option, None, Some}
use Rattle.orders.specs.Lists.{any, keep, Pairwise}
use Rattle.orders.specs.Orders.{World}
use Rattle.orders.specs.Walks.{without}

-- what is found, else what is found later
abbrev pub or_else : {B : Type 0} → Option B → Option B → Option B
or_else None later = later
or_else (Some x) later = Some x

-- what is found first for one of these, tried in turn
abbrev pub first_found : {A B : Type 0} → (A → Option B) → List A → Option B
first_found f [] = None
first_found f (x ∷ l) = or_else (f x) (first_found f l)

-- d in front of the list, if there is one
abbrev pub in_front : {A : Type 0} → A → Option (List A) → Option (List A)
in_front d None = None
in_front d (Some l) = Some (d ∷ l)

module _ (W : World) where
  open W use {Duty, State, serial, wholly_before, permitted, after}

  -- d may come next: no open duty is wholly before it
  abbrev pub may_come_next : List Duty → Duty → Bool
  may_come_next pool d = not (any (λ y. wholly_before y d) pool)

  -- The first failing order that is found where n duties are left. The duties that may come next are tried in
  -- the pool's order, which is that of serials. One that is not permitted ends the search; else it is done,
  -- and the rest is walked in the same way.
  abbrev pub first_failing : ℕ → State → List Duty → Option (List Duty)
  first_failing zero s pool = None
  first_failing (suc n) s pool =
      first_found
      (λ d. cond (permitted s d) (in_front d (first_failing n (after s d) (without W d pool))) (Some (d ∷ [])))
      (keep (may_come_next pool) pool)

  -- serials rise in the pool
  abbrev pub Rising : List Duty → Type 0
  Rising = Pairwise (λ (x y : Duty). serial x < serial y)

-- These serials come first of the two: at the first place where the two differ they have the lower, or they
-- end there.
abbrev pub ComesFirst : List ℕ → List ℕ → Type 0
ComesFirst [] [] = ⊥
ComesFirst [] (y ∷ m) = Unit {0}
ComesFirst (x ∷ l) [] = ⊥
ComesFirst (x ∷ l) (y ∷ m) = (x < y) ⊎ ((x ≡ y) × ComesFirst l m)
