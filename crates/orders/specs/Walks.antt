-- Doing duties one after the other: what may come next, what is left, and a walk through the pool.
use Rattle.std.specs.Prelude.{◌≡◌, ◌≢◌, ◌⊎◌, false, not, List, [], ◌∷◌, ◌++◌, eqb}
use Rattle.orders.specs.Lists.{Mem, keep, Pairwise}
use Rattle.orders.specs.Orders.{World}

module _ (W : World) where
  open W use {Duty, serial, wholly_before}

  -- d may come next: it is open, and no open duty is wholly before it
  pub record Next (pool : List Duty) (d : Duty) : Type 0 where
    pub open_d : Mem d pool
    pub free : (y : Duty) → Mem y pool → wholly_before y d ≡ false

  -- `left` has the members of the pool but d
  pub record Left (pool : List Duty) (d : Duty) (left : List Duty) : Type 0 where
    pub kept : (y : Duty) → Mem y pool → (y ≡ d) ⊎ Mem y left
    pub from : (y : Duty) → Mem y left → Mem y pool
    pub gone : (y : Duty) → Mem y left → serial d ≢ serial y

  -- the pool without the duty that has d's serial
  abbrev pub without : Duty → List Duty → List Duty
  without d pool = keep (λ y. not (eqb (serial d) (serial y))) pool

  -- A walk takes, at each step, a duty out of the pool that none of those left is wholly before, until none
  -- is left.
  abbrev pub Walk : List Duty → List Duty → Type 0
  Walk pool [] = pool ≡ []
  Walk pool (d ∷ order) =
      (a : List Duty) × (b : List Duty) × (pool ≡ a ++ (d ∷ b))
      × ((y : Duty) → Mem y (a ++ b) → wholly_before y d ≡ false) × Walk (a ++ b) order

  -- The windows allow an order if no duty stands after one that it is wholly before.
  abbrev pub Allowed : List Duty → Type 0
  Allowed = Pairwise (λ (x y : Duty). wholly_before y x ≡ false)
