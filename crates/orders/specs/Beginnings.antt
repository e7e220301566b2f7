-- Words for lists of duties on the way to a failing order: what an allowed order can begin with, and where
-- such a list gets stuck. No promise rests on these words: Orders.antt says what a failing
-- order is, and proofs/Failing.antt that what is said here makes one.
use Rattle.std.specs.Prelude.{◌≡◌, true, false, List, [], ◌∷◌, ◌++◌}
use Rattle.orders.specs.Lists.{Mem, Pairwise}
use Rattle.orders.specs.Orders.{World, MayFollow, Order, Permitted, run}

module _ (W : World) where
  open W use {Duty, State, wholly_before, permitted}

  -- A beginning: open duties, spaced, that leave out no open duty wholly before one of them.
  pub record Beginning (pool list : List Duty) : Type 0 where
    pub only : (d : Duty) → Mem d list → Mem d pool
    pub spaced : Pairwise (MayFollow W) list
    pub closed : (y z : Duty) → Mem y list → Mem z pool → wholly_before z y ≡ true → Mem z list

  -- some allowed order has a duty d that is not permitted in its turn
  pub record GetsStuck (s : State) (pool : List Duty) : Type 0 where
    pub earlier : List Duty
    pub d : Duty
    pub later : List Duty
    pub order : Order W pool (earlier ++ (d ∷ later))
    pub stuck : permitted (run W s earlier) d ≡ false

  -- d is the first duty of the list that is not permitted in its turn
  pub record FirstStuck (s : State) (list : List Duty) : Type 0 where
    pub earlier : List Duty
    pub d : Duty
    pub later : List Duty
    pub is : list ≡ earlier ++ (d ∷ later)
    pub done : Permitted W s earlier
    pub stuck : permitted (run W s earlier) d ≡ false

  -- the duties of the list are permitted in turn except the last, which is not
  pub record FailsLast (s : State) (list : List Duty) : Type 0 where
    pub earlier : List Duty
    pub last : Duty
    pub is : list ≡ earlier ++ (last ∷ [])
    pub done : Permitted W s earlier
    pub stuck : permitted (run W s earlier) last ≡ false

  -- a beginning whose last duty d is not permitted in its turn
  pub record EndsStuck (s : State) (pool earlier : List Duty) (d : Duty) : Type 0 where
    pub begins : Beginning pool (earlier ++ (d ∷ []))
    pub stuck : permitted (run W s earlier) d ≡ false
