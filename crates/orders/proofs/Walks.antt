-- Two other ways to say what an order is. It is a walk: it takes, at each step, a duty that none of those
-- left is wholly before. And it is a permutation of the open duties that the windows allow.
use mathlib.Core.Path.{◌≡◌, refl, sym, ap, ◌∙◌, subst₂}
use mathlib.Core.Logic.{◌↔◌}
use mathlib.Core.List.Memᴰ
use mathlib.Core.List.Permᴰ
use mathlib.Core.List.{
  List,
  [],
  ◌∷◌,
  ◌++◌,
  Permᴰ,
}
use Prim.Native.Nat.{suc}
use lib.ListN.{length}
use Rattle.orders.specs.Lists.{Mem, here, there, Pairwise}
use Rattle.orders.specs.Orders.{World, Order, Pool}
use Rattle.orders.specs.Walks.{Next, Walk, Allowed}
use Rattle.orders.proofs.Lists.{split, mid, at_mid, at_cons, no_members, pairwise_map, pairwise_both}
use Rattle.orders.proofs.Steps.{place_left, place_pool, next_order, order_next, order_first}

-- ---- permutations

module _ {A : Type 0} where
  pub perm_mem : {a b : List A} → Permᴰ a b → {z : A} → Mem z a → Mem z b
  perm_mem Permᴰ.nil m = m
  perm_mem (Permᴰ.cons e p) (here q) = here (q ∙ e)
  perm_mem (Permᴰ.cons e p) (there m) = there (perm_mem p m)
  perm_mem (Permᴰ.swap e f) (here q) = there (here (q ∙ e))
  perm_mem (Permᴰ.swap e f) (there (here q)) = here (q ∙ f)
  perm_mem (Permᴰ.swap e f) (there (there m)) = there (there m)
  perm_mem (Permᴰ.trans p q) m = perm_mem q (perm_mem p m)

  pub perm_length : {a b : List A} → Permᴰ a b → length a ≡ length b
  perm_length Permᴰ.nil = refl
  perm_length (Permᴰ.cons e p) = ap suc (perm_length p)
  perm_length (Permᴰ.swap e f) = refl
  perm_length (Permᴰ.trans p q) = perm_length p ∙ perm_length q

  -- a relation that goes both ways does not depend on the order
  perm_pairwise :
      (R : A → A → Type 0) → ((x y : A) → R x y → R y x) → {a b : List A} → Permᴰ a b → Pairwise R a
      → Pairwise R b
  perm_pairwise R turn Permᴰ.nil h = h
  perm_pairwise R turn (Permᴰ.cons e p) h =
      (λ y m. rw e at (h.0 y (perm_mem (Permᴰ.symm p) m)), perm_pairwise R turn p h.1)
  perm_pairwise R turn (Permᴰ.swap {a = x} {b = y} e f) h = (
    λ z m.
        at_cons
        (λ q. subst₂ R f (e ∙ sym q) (turn x y (h.0 y (here refl))))
        (λ n. rw f at (h.1.0 z n))
        m,
    (λ z m. rw e at (h.0 z (there m)), h.1.1),
  )
  perm_pairwise R turn (Permᴰ.trans p q) h = perm_pairwise R turn q (perm_pairwise R turn p h)

module _ (W : World) where
  open W use {Duty}

  -- ---- walks

  walk→order : (order pool : List Duty) → Pool W pool → Walk W pool order → Order W pool order
  walk→order [] pool P w = rw w (record { every = λ y m. m; only = λ y m. m; spaced = tt })
  walk→order (d ∷ order) pool P (a, b, e, free, w) =
      let P' : Pool W (a ++ (d ∷ b)) = rw e at P in
      let l = place_left W a b d P'.distinct in
      let left = walk→order order (a ++ b) (place_pool W a b d P') w in
      rw e (next_order W (a ++ (d ∷ b)) (a ++ b) d (next P') l order left)
    where
      next : Pool W (a ++ (d ∷ b)) → Next W (a ++ (d ∷ b)) d
      next P' =
          record {
            open_d = mid a b;
            free = λ y m.
                at_mid
                a
                (λ k. free y (Memᴰ.append_left b k))
                (λ q. rw q (P'.irreflexive d (mid a b)))
                (λ k. free y (Memᴰ.append_right a k))
                m;
          }

  order→walk : (order pool : List Duty) → Pool W pool → Order W pool order → Walk W pool order
  order→walk [] pool P o = no_members pool (λ y m. elim (o.every y m) [ ])
  order→walk (d ∷ order) pool P o =
      let (a, b, e) = split (o.only d (here refl)) in
      let P' : Pool W (a ++ (d ∷ b)) = rw e at P in
      let o' : Order W (a ++ (d ∷ b)) (d ∷ order) = rw e at o in
      let l = place_left W a b d P'.distinct in
      let n = order_first W (a ++ (d ∷ b)) order d P' o' in
      let left = order_next W (a ++ (d ∷ b)) (a ++ b) d n l order o' in (
        a,
        b,
        e,
        λ y m. n.free y (l.from y m),
        order→walk order (a ++ b) (place_pool W a b d P') left,
      )

  pub order↔walk : (pool order : List Duty) → Pool W pool → Order W pool order ↔ Walk W pool order
  order↔walk pool order P = (order→walk order pool P, walk→order order pool P)

  -- ---- permutations that the windows allow

  walk→permutation : (order pool : List Duty) → Walk W pool order → Permᴰ order pool
  walk→permutation [] pool w = rw w Permᴰ.nil
  walk→permutation (d ∷ order) pool (a, b, e, free, w) =
      rw
      e
      (Permᴰ.trans
      (Permᴰ.cons refl (walk→permutation order (a ++ b) w))
      (Permᴰ.symm (Permᴰ.middle d a b)))

  pub order↔permutation :
      (pool order : List Duty) → Pool W pool
      → Order W pool order ↔ (Permᴰ order pool × Allowed W order)
  order↔permutation pool order P = (to, from)
    where
      to : Order W pool order → Permᴰ order pool × Allowed W order
      to o = (
        walk→permutation order pool (order→walk order pool P o),
        pairwise_map _ _ (λ x y m. m.1) order o.spaced,
      )

      from : Permᴰ order pool × Allowed W order → Order W pool order
      from (p, allowed) =
          record {
            every = λ y m. perm_mem (Permᴰ.symm p) m;
            only = λ y m. perm_mem p m;
            spaced =
                pairwise_both
                _
                _
                order
                (perm_pairwise _ (λ x y n e. n (sym e)) (Permᴰ.symm p) P.distinct)
                allowed;
          }
