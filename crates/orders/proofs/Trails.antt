-- The trail of x and d, taken out of an order o of the open duties, is a beginning where x may stand before
-- d. The idea: whatever is wholly before d is x, or lies between x and d, or is early; and nothing early is x
-- or after it.
use mathlib.Core.Path.{◌≡◌, sym}
use mathlib.Core.Logic.{◌≢◌, inl, ⊎_elim}
use mathlib.Core.Bool.{true, false}
use mathlib.Core.List.Memᴰ
use mathlib.Core.List.{
  List,
  [],
  ◌∷◌,
  ◌++◌,
  append_assoc,
}
use lib.Dec.{eqb}
use borrow.Author.Tests.{eqb-true, eqb-false}
use Rattle.orders.specs.Lists.{Mem, here, keep}
use Rattle.orders.specs.Orders.{World, Order, MayFollow, Pool}
use Rattle.orders.specs.Beginnings.{Beginning}
use Rattle.orders.specs.Trails.{early, between, trail}
use Rattle.orders.proofs.Tests.{by_test, and_true, and_both}
use Rattle.orders.proofs.Lists.{keep_mem, keep_in, pairwise_keep, at_mid}
use Rattle.orders.proofs.Build.{one}
use Rattle.orders.proofs.Beginnings.{not_above_lem, not_below, begin_append, begin_then}
use Rattle.orders.proofs.Early.{early_is, early_in, until_x}

module _ (W : World) where
  open W use {Duty, serial, wholly_before}

  -- what is early, x, what lies between x and d: the trail without its last duty d
  abbrev pub before_last : List Duty → Duty → Duty → List Duty
  before_last o x d = keep (early W x d) o ++ (x ∷ keep (between W x d) o)

  pub trail_last : (o : List Duty) (x d : Duty) → trail W o x d ≡ before_last o x d ++ (d ∷ [])
  trail_last o x d = sym (append_assoc (keep (early W x d) o) (x ∷ keep (between W x d) o) (d ∷ []))

  -- the trail goes on where its first part, up to x, ends
  pub trail_first :
      (o : List Duty) (x d : Duty)
      → trail W o x d ≡ (keep (early W x d) o ++ (x ∷ [])) ++ (keep (between W x d) o ++ (d ∷ []))
  trail_first o x d = sym (append_assoc (keep (early W x d) o) (x ∷ []) (keep (between W x d) o ++ (d ∷ [])))

  module _
      (pool : List Duty) (P : Pool W pool) (o : List Duty) (ord : Order W pool o) (x d : Duty)
      (open_x : Mem x pool) (open_d : Mem d pool) (other : serial x ≢ serial d)
      (late : wholly_before d x ≡ false)
    where
      abbrev earlies : List Duty
      earlies = keep (early W x d) o

      abbrev betweens : List Duty
      betweens = keep (between W x d) o

      record Between (y : Duty) : Type 0 where
        open_y : Mem y pool
        after_x : wholly_before x y ≡ true
        before_d : wholly_before y d ≡ true

      between_is : {y : Duty} → Mem y betweens → Between y
      between_is {y} m =
          let (n, e) = keep_mem (between W x d) o m in
          let (a, b) = and_true (wholly_before x y) (wholly_before y d) e in
          record { open_y = ord.only y n; after_x = a; before_d = b }

      -- what is wholly before d is early, or x, or between
      below_d :
          (z : Duty) → Mem z pool → wholly_before z d ≡ true → Mem z ((earlies ++ (x ∷ [])) ++ betweens)
      below_d z n e =
          by_test
          (eqb (serial z) (serial x))
          (λ q. Memᴰ.append_left betweens (Memᴰ.append_right earlies (is_x q)))
          (λ q.
          by_test
          (wholly_before x z)
          (λ f. Memᴰ.append_right (earlies ++ (x ∷ [])) (is_between f))
          (λ f. Memᴰ.append_left betweens (Memᴰ.append_left (x ∷ []) (is_early q f))))
        where
          is_x : eqb (serial z) (serial x) ≡ true → Mem z (x ∷ [])
          is_x q = here (one W pool P n open_x (eqb-true (serial z) (serial x) q))

          is_between : wholly_before x z ≡ true → Mem z betweens
          is_between f =
              keep_in
              (between W x d)
              (ord.every z n)
              (and_both (wholly_before x z) (wholly_before z d) f e)

          is_early : eqb (serial z) (serial x) ≡ false → wholly_before x z ≡ false → Mem z earlies
          is_early q f =
              early_in W pool o ord x d
              (record {
                open_y = n;
                is_low = inl e;
                not_after = f;
                not_x = eqb-false (serial z) (serial x) q;
              })

      -- x is wholly before what lies between, and not wholly before what comes earlier
      until_d : Beginning W pool ((earlies ++ (x ∷ [])) ++ betweens)
      until_d =
          begin_append W pool (earlies ++ (x ∷ [])) betweens until
          (λ y m. (between_is m).open_y)
          (pairwise_keep _ (between W x d) o ord.spaced)
          (λ y z m n.
          let r = between_is n in
          not_above_lem W pool P open_x (until.only y m) r.open_y (not_after y m) r.after_x)
          (λ y z m n e.
          let r = between_is m in
          below_d z n (P.transitive z y d n r.open_y open_d e r.before_d))
        where
          until : Beginning W pool (earlies ++ (x ∷ []))
          until = until_x W pool P o ord x d open_x open_d

          not_after : (y : Duty) → Mem y (earlies ++ (x ∷ [])) → wholly_before x y ≡ false
          not_after y m =
              at_mid
              earlies
              (λ k. (early_is W pool o ord x d k).not_after)
              (λ q. rw q (P.irreflexive x open_x))
              (λ k. elim k [ ])
              m

      pub trail_beginning : Beginning W pool (trail W o x d)
      trail_beginning =
          rw
          (trail_last o x d, ← append_assoc earlies (x ∷ []) betweens)
          (begin_then W pool ((earlies ++ (x ∷ [])) ++ betweens) d until_d open_d last below_d)
        where
          last : (y : Duty) → Mem y ((earlies ++ (x ∷ [])) ++ betweens) → MayFollow W y d
          last y m =
              ⊎_elim
              (λ k.
              at_mid
              earlies
              (λ l. ⊎_elim before_d before_x (early_is W pool o ord x d l).is_low)
              is_x
              (λ l. elim l [ ])
              k)
              (λ k. before_d (between_is k).before_d)
              (Memᴰ.append_cases (earlies ++ (x ∷ [])) m)
            where
              before_d : wholly_before y d ≡ true → MayFollow W y d
              before_d e = not_below W pool P open_d (until_d.only y m) open_d e (P.irreflexive d open_d)

              before_x : wholly_before y x ≡ true → MayFollow W y d
              before_x e = not_below W pool P open_d (until_d.only y m) open_x e late

              is_x : y ≡ x → MayFollow W y d
              is_x q = rw q (other, late)
