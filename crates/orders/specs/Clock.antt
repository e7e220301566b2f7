-- Duties carried out by the clock: each at the earliest minute that its window and the clock permit.
-- `last d` is the last minute at which d may be done: where windows include both ends, the window's end.
use Rattle.std.specs.Prelude.{◌≡◌, true, List, [], ◌∷◌, ℕ, ◌≤◌, max, ltb}
use Rattle.orders.specs.Orders.{World}
use Rattle.orders.specs.Walks.{Next, without}

module _ (W : World) (start last : W.Duty → ℕ) where
  open W use {Duty, State, wholly_before, permitted, after}

  -- The window has a minute, and d is wholly before just those duties that start after its last minute.
  pub record Window (d : Duty) : Type 0 where
    pub proper : start d ≤ last d
    pub ends : (c : Duty) → wholly_before d c ≡ ltb (last d) (start c)

  -- the earliest minute that the clock and the window permit
  abbrev pub earliest : ℕ → Duty → ℕ
  earliest clock d = max clock (start d)

  -- Carried out in this order: each duty is done at its earliest minute, the clock does not go back, the
  -- minute lies in the window, no open duty is wholly before it, and it is permitted. No duty is left in the
  -- end.
  abbrev pub CarriedOut : ℕ → State → List Duty → List Duty → Type 0
  CarriedOut clock s pool [] = pool ≡ []
  CarriedOut clock s pool (d ∷ order) =
      (clock ≤ earliest clock d) × (start d ≤ earliest clock d) × (earliest clock d ≤ last d) × Next W pool d
      × (permitted s d ≡ true) × CarriedOut (earliest clock d) (after s d) (without W d pool) order
