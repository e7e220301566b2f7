-- The trail on which a red board's duty d gets stuck. `pool` is in an allowed order. For a need that x can
-- make wrong: what must come early, x, what lies between x and d, d; where d has no permission or rule, or a
-- need that stays wrong, x is d itself. Done duty by duty and cut after the first that is not permitted, the
-- trail is a failing order.
use Rattle.std.specs.Prelude.{◌≡◌, Bool, true, false, not, ◌&&◌, ◌||◌, cond, List, [], ◌∷◌, ◌++◌, eqb}
use Rattle.orders.specs.Lists.{Mem, keep}
use Rattle.orders.specs.Orders.{World}
use Rattle.orders.specs.Needs.{Duties, Holdings, ruled, needed}
use Rattle.orders.specs.Criterion.{stays_wrong, spoils, mended}

module _ (W : World) where
  open W use {Duty, State, serial, wholly_before, permitted, after}

  -- wholly before d or x, and neither x nor after it
  abbrev pub early : Duty → Duty → Duty → Bool
  early x d y = (wholly_before y d || wholly_before y x) && not (wholly_before x y || eqb (serial y) (serial x))

  -- x is wholly before it, and it is wholly before d
  abbrev pub between : Duty → Duty → Duty → Bool
  between x d y = wholly_before x y && wholly_before y d

  -- what must come early, x, what lies between x and d, d
  abbrev pub trail : List Duty → Duty → Duty → List Duty
  trail pool x d = keep (early x d) pool ++ (x ∷ (keep (between x d) pool ++ (d ∷ [])))

  -- each duty of the list is permitted in its turn
  abbrev pub goes_through : State → List Duty → Bool
  goes_through s [] = true
  goes_through s (d ∷ l) = permitted s d && goes_through (after s d) l

  -- the list up to and with the first duty that is not permitted in its turn
  abbrev pub cut_off : State → List Duty → List Duty
  cut_off s [] = []
  cut_off s (d ∷ l) = d ∷ cond (permitted s d) (cut_off (after s d) l) []

module _ (D : Duties) where
  open D use {Duty, Holding, asks}

  -- Why `trail pool x d` gets stuck, in the tests of the criterion: x is d, which has no permission or rule
  -- or a need that stays wrong (a); or x makes a need of d wrong (b).
  pub data StuckBy (s : Holdings D) (pool : List Duty) (d x : Duty) : Type 0 where
    unruled : x ≡ d → ruled (asks d) ≡ false → StuckBy s pool d x
    stays :
        (h : Holding) (p : Bool) → Mem (h, p) (needed (asks d)) → x ≡ d → stays_wrong D s pool d h p ≡ true
        → StuckBy s pool d x
    made :
        (h : Holding) (p : Bool) → Mem (h, p) (needed (asks d)) → Mem x pool
        → spoils D d h p x && not (mended D pool d h p x) ≡ true → StuckBy s pool d x
