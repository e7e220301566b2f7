-- Doing one duty. The idea: where no open duty is wholly before d, d may be put in front of any order of what
-- is left, and that is an order of the whole. So a green board stays green when d is done, and a failing
-- order of what is left, with d in front, is one of the whole. Green depends on which duties are open, not on
-- where they stand.
use mathlib.Core.Path.{◌≡◌, refl, sym, ap}
use mathlib.Core.Logic.{◌↔◌, inl, inr, ⊎_elim}
use mathlib.Core.Bool.{true, false, not}
use mathlib.Core.List.Memᴰ
use mathlib.Core.List.{List, [], ◌∷◌, ◌++◌}
use lib.Dec.{eqb}
use borrow.Author.Tests.{eqb-true, eqb-false}
use Rattle.orders.specs.Lists.{Mem, here, there}
use Rattle.orders.specs.Orders.{World, Order, Distinct, Pool, Green, Failing}
use Rattle.orders.specs.Walks.{Next, Left, without}
use Rattle.orders.proofs.Tests.{by_test, not_true, not_of_false}
use Rattle.orders.proofs.Lists.{
  keep_mem,
  keep_in,
  pairwise_keep,
  pairwise_append,
  pairwise_left,
  pairwise_right,
  pairwise_across,
  at_mid,
}
use Rattle.orders.proofs.Build.{same_serial, sort, sort_order}

module _ (W : World) where
  open W use {Duty, State, serial, wholly_before, permitted, after}

  -- ---- what is left: by serial, and by place

  pub without_left :
      (pool : List Duty) (d : Duty) → Distinct W pool → Mem d pool → Left W pool d (without W d pool)
  without_left pool d distinct m =
      record {
        kept = λ y n.
            by_test
            (eqb (serial d) (serial y))
            (λ e. inl (same_serial W pool distinct n m (sym (eqb-true (serial d) (serial y) e))))
            (λ e. inr (keep_in (λ y. not (eqb (serial d) (serial y))) n (not_of_false _ e)));
        from = λ y n. (keep_mem _ pool n).0;
        gone = λ y n.
            eqb-false (serial d) (serial y) (not_true (eqb (serial d) (serial y)) (keep_mem _ pool n).1);
      }

  pub place_left :
      (a b : List Duty) (d : Duty) → Distinct W (a ++ (d ∷ b)) → Left W (a ++ (d ∷ b)) d (a ++ b)
  place_left a b d h =
      record {
        kept = λ y m.
            at_mid a (λ k. inr (Memᴰ.append_left b k)) inl (λ k. inr (Memᴰ.append_right a k)) m;
        from = λ y m.
            ⊎_elim
            (Memᴰ.append_left (d ∷ b))
            (λ k. Memᴰ.append_right a (there k))
            (Memᴰ.append_cases a m);
        gone = λ y m.
            ⊎_elim
            (λ k e. pairwise_across _ a (d ∷ b) h k (here refl) (sym e))
            ((pairwise_right _ a (d ∷ b) h).0 y)
            (Memᴰ.append_cases a m);
      }

  pub place_distinct : (a b : List Duty) (d : Duty) → Distinct W (a ++ (d ∷ b)) → Distinct W (a ++ b)
  place_distinct a b d h =
      pairwise_append
      _
      a
      b
      (pairwise_left _ a (d ∷ b) h)
      (pairwise_right _ a (d ∷ b) h).1
      (λ x y m n. pairwise_across _ a (d ∷ b) h m (there n))

  -- some of a pool's duties, each once, are a pool
  pub part_pool :
      (pool part : List Duty) → ((y : Duty) → Mem y part → Mem y pool) → Distinct W part → Pool W pool
      → Pool W part
  part_pool pool part f h P =
      record {
        distinct = h;
        irreflexive = λ x m. P.irreflexive x (f x m);
        transitive = λ x y z l m n. P.transitive x y z (f x l) (f y m) (f z n);
      }

  pub without_pool : (pool : List Duty) (d : Duty) → Pool W pool → Pool W (without W d pool)
  without_pool pool d P =
      part_pool pool (without W d pool) (λ y n. (keep_mem _ pool n).0) (pairwise_keep _ _ pool P.distinct) P

  pub place_pool : (a b : List Duty) (d : Duty) → Pool W (a ++ (d ∷ b)) → Pool W (a ++ b)
  place_pool a b d P =
      part_pool
      (a ++ (d ∷ b))
      (a ++ b)
      (place_left a b d P.distinct).from
      (place_distinct a b d P.distinct)
      P

  -- ---- d comes next

  module _ (pool left : List Duty) (d : Duty) (n : Next W pool d) (l : Left W pool d left) where
    -- an order of what is left, with d in front, is an order
    pub next_order : (order : List Duty) → Order W left order → Order W pool (d ∷ order)
    next_order order o =
        record {
          every = λ y m. ⊎_elim here (λ k. there (o.every y k)) (l.kept y m);
          only = only;
          spaced =
              (λ y m. let k = o.only y m in (l.gone y k, n.free y (l.from y k)), o.spaced);
        }
      where
        only : (y : Duty) → Mem y (d ∷ order) → Mem y pool
        only y (here e) = rw e n.open_d
        only y (there m) = l.from y (o.only y m)

    -- an order that begins with d goes on with an order of what is left
    pub order_next : (order : List Duty) → Order W pool (d ∷ order) → Order W left order
    order_next order o =
        record {
          every = λ y m. again y m (o.every y (l.from y m));
          only = λ y m.
              ⊎_elim
              (λ e. absurd ((o.spaced.0 y m).0 (ap serial (sym e))))
              (λ k. k)
              (l.kept y (o.only y (there m)));
          spaced = o.spaced.1;
        }
      where
        again : (y : Duty) → Mem y left → Mem y (d ∷ order) → Mem y order
        again y m (here e) = absurd (l.gone y m (ap serial (sym e)))
        again y m (there k) = k

    -- green stays green
    pub next_green : (s : State) → Green W s pool → Green W (after s d) left
    next_green s g order o earlier x later e =
        g (d ∷ order) (next_order order o) (d ∷ earlier) x later (ap (λ (t : List Duty). d ∷ t) e)

    -- on a green board, d is permitted
    pub next_permitted : Pool W left → (s : State) → Green W s pool → permitted s d ≡ true
    next_permitted P s g =
        g (d ∷ sort W left) (next_order (sort W left) (sort_order W left P)) [] d (sort W left) refl

    -- a failing order of what is left, with d in front, is one of the whole
    pub failing_next :
        (s : State) (list : List Duty) → permitted s d ≡ true → Failing W (after s d) left list
        → Failing W s pool (d ∷ list)
    failing_next s list e f =
        record {
          earlier = d ∷ f.earlier;
          last = f.last;
          later = f.later;
          is = ap (λ (t : List Duty). d ∷ t) f.is;
          order = next_order (f.earlier ++ (f.last ∷ f.later)) f.order;
          done = (e, f.done);
          stuck = f.stuck;
        }

    -- and so is d alone where it is not permitted
    pub failing_now : Pool W left → (s : State) → permitted s d ≡ false → Failing W s pool (d ∷ [])
    failing_now P s e =
        record {
          earlier = [];
          last = d;
          later = sort W left;
          is = refl;
          order = next_order (sort W left) (sort_order W left P);
          done = tt;
          stuck = e;
        }

  -- ---- green, by steps

  -- the first of an order may come next
  pub order_first :
      (pool order : List Duty) (d : Duty) → Pool W pool → Order W pool (d ∷ order) → Next W pool d
  order_first pool order d P o =
      record { open_d = o.only d (here refl); free = λ y m. free y (o.every y m) }
    where
      free : (y : Duty) → Mem y (d ∷ order) → wholly_before y d ≡ false
      free y (here e) = rw e (P.irreflexive d (o.only d (here refl)))
      free y (there m) = (o.spaced.0 y m).1

  -- whatever may come next is permitted, and what it leaves is green
  abbrev pub GreenSteps : State → List Duty → Type 0
  GreenSteps s pool =
      (d : Duty) → Next W pool d → (permitted s d ≡ true) × Green W (after s d) (without W d pool)

  pub green_steps : (s : State) (pool : List Duty) → Pool W pool → Green W s pool ↔ GreenSteps s pool
  green_steps s pool P = (steps, back)
    where
      left : (d : Duty) → Next W pool d → Left W pool d (without W d pool)
      left d n = without_left pool d P.distinct n.open_d

      steps : Green W s pool → GreenSteps s pool
      steps g d n = (
        next_permitted pool (without W d pool) d n (left d n) (without_pool pool d P) s g,
        next_green pool (without W d pool) d n (left d n) s g,
      )

      back : GreenSteps s pool → Green W s pool
      back f order o [] d later e = (f d (order_first pool later d P (rw e at o))).0
      back f order o (x ∷ earlier) d later e =
          let others = earlier ++ (d ∷ later) in
          let o' : Order W pool (x ∷ others) = rw e at o in
          let n = order_first pool others x P o' in
          (f x n).1 others (order_next pool (without W x pool) x n (left x n) others o') earlier d later refl

  -- ---- where a duty stands in the pool does not matter

  module _ (pool pool' : List Duty) (same : (y : Duty) → Mem y pool ↔ Mem y pool') where
    pub order_same : (order : List Duty) → Order W pool order → Order W pool' order
    order_same order o =
        record {
          every = λ y m. o.every y ((same y).1 m);
          only = λ y m. (same y).0 (o.only y m);
          spaced = o.spaced;
        }

    pub failing_same : (s : State) (list : List Duty) → Failing W s pool list → Failing W s pool' list
    failing_same s list f =
        record {
          earlier = f.earlier;
          last = f.last;
          later = f.later;
          is = f.is;
          order = order_same (f.earlier ++ (f.last ∷ f.later)) f.order;
          done = f.done;
          stuck = f.stuck;
        }

  pub green_same :
      (pool pool' : List Duty) → ((y : Duty) → Mem y pool ↔ Mem y pool') → (s : State) → Green W s pool
      → Green W s pool'
  green_same pool pool' same s g order o =
      g order (order_same pool' pool (λ y. ((same y).1, (same y).0)) order o)
