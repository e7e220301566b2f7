-- What is early for x and d (wholly before one of them, and neither x nor after it), taken out of an order o
-- of the open duties, is a beginning, and goes on with x: whatever is wholly before something early is early,
-- and so is whatever is wholly before x.
use mathlib.Core.Path.{◌≡◌}
use mathlib.Core.Logic.{◌≢◌, ◌⊎◌, inl, inr, ⊎_elim}
use mathlib.Core.Bool.{Bool, true, false, not, ◌||◌}
use mathlib.Core.List.{List, [], ◌∷◌, ◌++◌}
use lib.Dec.{eqb}
use borrow.Author.Tests.{eqb-false, ne_eqb}
use Rattle.orders.specs.Lists.{Mem, keep}
use Rattle.orders.specs.Orders.{World, Order, Pool}
use Rattle.orders.specs.Beginnings.{Beginning}
use Rattle.orders.specs.Trails.{early}
use Rattle.orders.proofs.Tests.{
  clash,
  is_false,
  not_true,
  not_of_false,
  or_true,
  or_left,
  or_right,
  or_false,
  or_neither,
  and_true,
  and_both,
}
use Rattle.orders.proofs.Lists.{keep_mem, keep_in, pairwise_keep}
use Rattle.orders.proofs.Build.{one_way}
use Rattle.orders.proofs.Beginnings.{differ, begin_then}

module _ (W : World) where
  open W use {Duty, serial, wholly_before}

  pub record Early (pool : List Duty) (x d y : Duty) : Type 0 where
    pub open_y : Mem y pool
    pub is_low : (wholly_before y d ≡ true) ⊎ (wholly_before y x ≡ true)
    pub not_after : wholly_before x y ≡ false
    pub not_x : serial y ≢ serial x

  module _ (pool o : List Duty) (ord : Order W pool o) (x d : Duty) where
    abbrev low : Duty → Bool
    low y = wholly_before y d || wholly_before y x

    abbrev from_x : Duty → Bool
    from_x y = wholly_before x y || eqb (serial y) (serial x)

    pub early_is : {y : Duty} → Mem y (keep (early W x d) o) → Early pool x d y
    early_is {y} m =
        let (n, e) = keep_mem (early W x d) o m in
        let (l, f) = and_true (low y) (not (from_x y)) e in
        let (b, q) = or_false (wholly_before x y) (eqb (serial y) (serial x)) (not_true (from_x y) f) in
        record {
          open_y = ord.only y n;
          is_low = or_true (wholly_before y d) (wholly_before y x) l;
          not_after = b;
          not_x = eqb-false (serial y) (serial x) q;
        }

    pub early_in : {y : Duty} → Early pool x d y → Mem y (keep (early W x d) o)
    early_in {y} r =
        keep_in (early W x d) (ord.every y r.open_y) (and_both (low y) (not (from_x y)) is_low not_from)
      where
        is_low : low y ≡ true
        is_low =
            ⊎_elim
            (or_left (wholly_before y d) (wholly_before y x))
            (or_right (wholly_before y d) (wholly_before y x))
            r.is_low

        not_from : not (from_x y) ≡ true
        not_from =
            not_of_false
            (from_x y)
            (or_neither
            (wholly_before x y)
            (eqb (serial y) (serial x))
            r.not_after
            (ne_eqb (serial y) (serial x) r.not_x))

  module _
      (pool : List Duty) (P : Pool W pool) (o : List Duty) (ord : Order W pool o) (x d : Duty)
      (open_x : Mem x pool) (open_d : Mem d pool)
    where
      -- what is wholly before something early is early
      below : (y z : Duty) → Early pool x d y → Mem z pool → wholly_before z y ≡ true → Early pool x d z
      below y z r n e =
          record {
            open_y = n;
            is_low =
                ⊎_elim
                (λ f. inl (P.transitive z y d n r.open_y open_d e f))
                (λ f. inr (P.transitive z y x n r.open_y open_x e f))
                r.is_low;
            not_after =
                is_false _ (λ t. clash (P.transitive x z y open_x n r.open_y t e) r.not_after);
            not_x = differ W pool P (λ v. wholly_before v y) n open_x e r.not_after;
          }

      early_beginning : Beginning W pool (keep (early W x d) o)
      early_beginning =
          record {
            only = λ y m. (early_is pool o ord x d m).open_y;
            spaced = pairwise_keep _ (early W x d) o ord.spaced;
            closed = λ y z m n e. early_in pool o ord x d (below y z (early_is pool o ord x d m) n e);
          }

      -- what is early, then x
      pub until_x : Beginning W pool (keep (early W x d) o ++ (x ∷ []))
      until_x =
          begin_then W pool (keep (early W x d) o) x early_beginning open_x
          (λ y m. let r = early_is pool o ord x d m in (r.not_x, r.not_after))
          (λ z n e. early_in pool o ord x d (before_x z n e))
        where
          before_x : (z : Duty) → Mem z pool → wholly_before z x ≡ true → Early pool x d z
          before_x z n e =
              record {
                open_y = n;
                is_low = inr e;
                not_after = one_way W pool P z x n open_x e;
                not_x = differ W pool P (λ v. wholly_before v x) n open_x e (P.irreflexive x open_x);
              }
