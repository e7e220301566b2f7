-- The clock: a green board on which no window is over can be carried out in every allowed order. The idea:
-- doing d at the later of the clock and its start keeps every other window open, since no duty left is wholly
-- before d, so each ends no earlier than d starts. Also: windows make wholly before a strict order.
use mathlib.Core.Path.{◌≡◌, refl, sym, ◌∙◌}
use mathlib.Core.Bool.{true, false}
use mathlib.Core.List.{List, [], ◌∷◌}
use Prim.Native.Nat.{ℕ, ◌-◌, ◌≤◌, ◌<◌}
use native.Mathlib.Omega.{arith}
use lib.Dec.{ltb, leb}
use borrow.Author.Tests.{ltb-true, ltb-false, lt-ltb, le-ltb, leb-true, leb-false}
use Rattle.orders.specs.Lists.{Mem, here, there, Pairwise}
use Rattle.orders.specs.Orders.{World, Order, Distinct, Pool, Green}
use Rattle.orders.specs.Walks.{Allowed, without}
use Rattle.orders.specs.Clock.{Window, earliest, CarriedOut}
use Rattle.orders.proofs.Tests.{by_test}
use Rattle.orders.proofs.Steps.{without_left, without_pool, order_next, order_first, next_green}

module _ (W : World) (start last : W.Duty → ℕ) where
  open W use {Duty, State, wholly_before, after}

  -- wholly before is a strict order where each duty has a window
  pub windows_pool :
      (pool : List Duty) → Distinct W pool → ((d : Duty) → Mem d pool → Window W start last d) → Pool W pool
  windows_pool pool distinct w =
      record { distinct = distinct; irreflexive = irreflexive; transitive = transitive }
    where
      irreflexive : (x : Duty) → Mem x pool → wholly_before x x ≡ false
      irreflexive x m = let k = w x m in k.ends x ∙ le-ltb (last x) (start x) k.proper

      transitive :
          (x y z : Duty) → Mem x pool → Mem y pool → Mem z pool → wholly_before x y ≡ true
          → wholly_before y z ≡ true → wholly_before x z ≡ true
      transitive x y z l m n p q =
          let j = w x l in
          let k = w y m in
          let f = ltb-true (last x) (start y) (sym (j.ends y) ∙ p) in
          let g = ltb-true (last y) (start z) (sym (k.ends z) ∙ q) in
          j.ends z ∙ lt-ltb (last x) (start z) (omega (arith, k.proper))

  -- duties in order of start are allowed
  pub rising_allowed :
      (l : List Duty) → ((d : Duty) → Mem d l → Window W start last d)
      → Pairwise (λ (x y : Duty). start x ≤ start y) l → Allowed W l
  rising_allowed [] w h = tt
  rising_allowed (x ∷ l) w h = (
    λ y m.
        let k = w y (there m) in
        let j = h.0 y m in
        k.ends x ∙ le-ltb (last y) (start x) (omega (arith, k.proper)),
    rising_allowed l (λ y m. w y (there m)) h.1,
  )

  -- doing d at its earliest minute leaves the window of y open, if y is not wholly before d
  still_open :
      (clock : ℕ) (d y : Duty) → Window W start last y → clock ≤ last y → wholly_before y d ≡ false
      → earliest W start last clock d ≤ last y
  still_open clock d y w c e = let f = ltb-false (last y) (start d) (sym (w.ends d) ∙ e) in omega arith

  -- no window over, and green: every order can be carried out
  pub carried_out :
      (order : List Duty) (clock : ℕ) (s : State) (pool : List Duty) → Pool W pool → Green W s pool
      → ((d : Duty) → Mem d pool → Window W start last d) → ((d : Duty) → Mem d pool → clock ≤ last d)
      → Order W pool order → CarriedOut W start last clock s pool order
  carried_out [] clock s [] P g w c o = refl
  carried_out [] clock s (x ∷ pool) P g w c o = elim (o.every x (here refl)) [ ]
  carried_out (d ∷ order) clock s pool P g w c o =
      let n = order_first W pool order d P o in
      let l = without_left W pool d P.distinct n.open_d in
      let k = (w d n.open_d).proper in
      let j = c d n.open_d in (
        omega arith,
        omega arith,
        omega arith,
        n,
        g (d ∷ order) o [] d order refl,
        carried_out
            order
            (earliest W start last clock d)
            (after s d)
            (without W d pool)
            (without_pool W pool d P)
            (next_green W pool (without W d pool) d n l s g)
            (λ y m. w y (l.from y m))
            (λ y m. still_open clock d y (w y (l.from y m)) (c y (l.from y m)) (n.free y (l.from y m)))
            (order_next W pool (without W d pool) d n l order o),
      )

-- ---- windows that include both ends, and windows that end before their end

half_open : (a e b : ℕ) → a < e → leb e b ≡ ltb (e - 1) b
half_open a e b h =
    by_test
    (leb e b)
    (λ t. t ∙ sym (lt-ltb (e - 1) b (omega (arith, leb-true e b t))))
    (λ f. f ∙ sym (le-ltb (e - 1) b (omega (arith, leb-false e b f))))

module _ (W : World) (start end : W.Duty → ℕ) where
  open W use {Duty, wholly_before}

  -- the last minute is the end: wholly before is `end b < start c`
  pub window₁ :
      (d : Duty) → start d ≤ end d → ((c : Duty) → wholly_before d c ≡ ltb (end d) (start c))
      → Window W start end d
  window₁ d h e = record { proper = h; ends = e }

  -- the last minute is the one before the end: wholly before is `end b ≤ start c`
  pub window₂ :
      (d : Duty) → start d < end d → ((c : Duty) → wholly_before d c ≡ leb (end d) (start c))
      → Window W start (λ c. end c - 1) d
  window₂ d h e =
      record { proper = omega arith; ends = λ c. e c ∙ half_open (start d) (end d) (start c) h }
