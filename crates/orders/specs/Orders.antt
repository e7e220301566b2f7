-- Orders, green and failing orders, over any kind of duty: document 01, section Orders.
use Rattle.std.specs.Prelude.{◌≡◌, ◌≢◌, Bool, true, false, List, [], ◌∷◌, ◌++◌, map, ℕ}
use Rattle.orders.specs.Lists.{Mem, Pairwise}

-- What a board is about: duties, each with its serial; which is wholly before which; the states, that is, who
-- holds which role; when a duty is permitted; what doing it changes.
pub record World : Type 1 where
  pub Duty : Type 0
  pub State : Type 0
  pub serial : Duty → ℕ
  pub wholly_before : Duty → Duty → Bool
  pub permitted : State → Duty → Bool
  pub after : State → Duty → State

module _ (W : World) where
  open W use {Duty, State, serial, wholly_before, permitted, after}

  -- no serial stands twice
  abbrev pub Distinct : List Duty → Type 0
  Distinct = Pairwise (λ (x y : Duty). serial x ≢ serial y)

  -- y may stand after x: it is another duty, and it is not wholly before x
  abbrev pub MayFollow : Duty → Duty → Type 0
  MayFollow x y = (serial x ≢ serial y) × (wholly_before y x ≡ false)

  -- An order lists every duty of the pool once, and no duty stands after one that it is wholly before.
  pub record Order (pool order : List Duty) : Type 0 where
    pub every : (d : Duty) → Mem d pool → Mem d order
    pub only : (d : Duty) → Mem d order → Mem d pool
    pub spaced : Pairwise MayFollow order

  -- the state once these duties have been done, in turn
  abbrev pub run : State → List Duty → State
  run s [] = s
  run s (d ∷ l) = run (after s d) l

  -- Green: in every allowed order and at every point in it, the duties before that point having been done,
  -- the next is permitted. `earlier` may be empty, so a first duty must be permitted too.
  abbrev pub Green : State → List Duty → Type 0
  Green s pool =
      (order : List Duty) → Order pool order → (earlier : List Duty) (next : Duty) (later : List Duty)
      → order ≡ earlier ++ (next ∷ later) → permitted (run s earlier) next ≡ true

  -- each is permitted in its turn
  abbrev pub Permitted : State → List Duty → Type 0
  Permitted s [] = Unit {0}
  Permitted s (d ∷ l) = (permitted s d ≡ true) × Permitted (after s d) l

  -- A failing order: the beginning of an allowed order whose duties are all permitted in turn except the
  -- last, which is not.
  pub record Failing (s : State) (pool list : List Duty) : Type 0 where
    pub earlier : List Duty
    pub last : Duty
    pub later : List Duty
    pub is : list ≡ earlier ++ (last ∷ [])
    pub order : Order pool (earlier ++ (last ∷ later))
    pub done : Permitted s earlier
    pub stuck : permitted (run s earlier) last ≡ false

  -- a failing order, told by its serials
  pub record FailingSerials (s : State) (pool : List Duty) (serials : List ℕ) : Type 0 where
    pub list : List Duty
    pub named : map serial list ≡ serials
    pub failing : Failing s pool list

  -- What is asked of a pool: no serial twice, and wholly before is a strict order on its members.
  pub record Pool (pool : List Duty) : Type 0 where
    pub distinct : Distinct pool
    pub irreflexive : (x : Duty) → Mem x pool → wholly_before x x ≡ false
    pub transitive :
        (x y z : Duty) → Mem x pool → Mem y pool → Mem z pool
        → wholly_before x y ≡ true → wholly_before y z ≡ true → wholly_before x z ≡ true
