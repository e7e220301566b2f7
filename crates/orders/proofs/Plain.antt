-- The plain walk finds a failing order exactly if the board is not green. What it finds is a failing order,
-- since a duty that may come next stands in front of some order, with a failing order of the rest behind it.
-- Where it finds none, whatever may come next is permitted and leaves a green board. And where serials rise
-- in the pool, no failing order comes before the one that is found: a duty that was tried before the first of
-- it leaves a green board.
use mathlib.Core.Path.{◌≡◌, refl, sym, ap, ◌∙◌, subst}
use mathlib.Core.Logic.{◌↔◌, ◌⊎◌, inl, inr, ⊎_elim}
use mathlib.Core.Bool.{Bool, true, false, not, cond}
use Rattle.std.specs.Prelude.{Option, None, Some}
use Rattle.std.proofs.lemmas.Option.{none-some, same_Some}
use mathlib.Core.List.{List, [], ◌∷◌, ◌++◌, map}
use Prim.Native.Nat.{ℕ, zero, suc, ◌≤◌, ◌<◌}
use native.Mathlib.Nat.{not-suc-le-zero}
use native.Mathlib.Omega.{arith}
use lib.Dec.{eqb}
use lib.ListN.{length}
use borrow.Author.Tests.{eq-eqb}
use Rattle.orders.specs.Lists.{Mem, here, there, any, keep}
use Rattle.orders.specs.Orders.{World, Order, Pool, Green, Permitted, Failing, run}
use Rattle.orders.specs.Plain.{or_else, first_found, in_front, may_come_next, first_failing}
use Rattle.orders.specs.Plain.{Rising, ComesFirst}
use Rattle.orders.specs.Walks.{Next, without}
use Rattle.orders.proofs.Tests.{by_test, clash, not_true, not_of_false}
use Rattle.orders.proofs.Lists.{
  any_false,
  none_any,
  keep_mem,
  keep_in,
  mid,
  at_cons,
  at_mid,
  pairwise_keep,
  pairwise_right,
}
use Rattle.orders.proofs.Build.{same_serial}
use Rattle.orders.proofs.Failing.{failing_not_green}
use Rattle.orders.proofs.Steps.{
  without_left,
  without_pool,
  order_next,
  order_first,
  failing_next,
  failing_now,
  green_steps,
}

-- ---- the first that is found

-- x is the first with which something is found, and that is y
record FoundAt {A B : Type 0} (f : A → Option B) (l : List A) (y : B) : Type 0 where
  earlier : List A
  x : A
  later : List A
  is : l ≡ earlier ++ (x ∷ later)
  missed : (z : A) → Mem z earlier → f z ≡ None
  hit : f x ≡ Some y

module _ {B : Type 0} where
  neither : (o p : Option B) → or_else o p ≡ None → (o ≡ None) × (p ≡ None)
  neither None p e = (refl, e)
  neither (Some y) p e = absurd (none-some y (sym e))

  either : {y : B} (o p : Option B) → or_else o p ≡ Some y → (o ≡ Some y) ⊎ ((o ≡ None) × (p ≡ Some y))
  either None p e = inr (refl, e)
  either (Some x) p e = inl e

module _ {A B : Type 0} (f : A → Option B) where
  none_found : {x : A} (l : List A) → first_found f l ≡ None → Mem x l → f x ≡ None
  none_found [] e x3 = elim x3 [ ]
  none_found (z ∷ l) e (here p) = ap f p ∙ (neither (f z) (first_found f l) e).0
  none_found (z ∷ l) e (there m) = none_found l (neither (f z) (first_found f l) e).1 m

  found_at : (l : List A) (y : B) → first_found f l ≡ Some y → FoundAt f l y
  found_at [] y e = absurd (none-some y e)
  found_at (z ∷ l) y e =
      ⊎_elim now (λ (q, k). further q (found_at l y k)) (either (f z) (first_found f l) e)
    where
      now : f z ≡ Some y → FoundAt f (z ∷ l) y
      now q =
          record {
            earlier = [];
            x = z;
            later = l;
            is = refl;
            missed = λ w m. elim m [ ];
            hit = q;
          }

      further : f z ≡ None → FoundAt f l y → FoundAt f (z ∷ l) y
      further q r =
          record {
            earlier = z ∷ r.earlier;
            x = r.x;
            later = r.later;
            is = ap (λ (t : List A). z ∷ t) r.is;
            missed = λ w m. at_cons (λ p. ap f p ∙ q) (r.missed w) m;
            hit = r.hit;
          }

module _ {A : Type 0} (d : A) where
  front_none : (o : Option (List A)) → in_front d o ≡ None → o ≡ None
  front_none None e = refl
  front_none (Some l) e = absurd (none-some (d ∷ l) (sym e))

  front_some :
      (o : Option (List A)) (list : List A) → in_front d o ≡ Some list
      → (l : List A) × (o ≡ Some l) × (list ≡ d ∷ l)
  front_some None list e = absurd (none-some list e)
  front_some (Some l) list e = (l, refl, sym (same_Some (d ∷ l) list e))

-- ---- one member fewer

module _ {A : Type 0} (p : A → Bool) where
  keep_le : (l : List A) → length (keep p l) ≤ length l
  keep_le [] = omega arith
  keep_le (x ∷ l) = let h = keep_le l in by_test (p x) (λ t. rw t (omega arith)) (λ f. rw f (omega arith))

  keep_lt : {y : A} {l : List A} → Mem y l → p y ≡ false → length (keep p l) < length l
  keep_lt (here {x = x} {xs = l} e) f =
      let out : p x ≡ false = sym (ap p e) ∙ f in let h = keep_le l in rw out (omega arith)
  keep_lt (there {x = x} {xs = l} m) f =
      let h = keep_lt m f in by_test (p x) (λ t. rw t (omega arith)) (λ e. rw e (omega arith))

module _ (W : World) where
  open W use {Duty, State, serial, wholly_before, permitted, after}

  shorter :
      (n : ℕ) (pool : List Duty) (d : Duty) → Mem d pool → length pool ≤ suc n
      → length (without W d pool) ≤ n
  shorter n pool d m h =
      let k = keep_lt (λ y. not (eqb (serial d) (serial y))) m (rw (eq-eqb (serial d) (serial d) refl)) in
      omega arith

  -- ---- the duties that may come next, and what is found with one of them in front

  abbrev nexts : List Duty → List Duty
  nexts pool = keep (may_come_next W pool) pool

  next_is : (pool : List Duty) (d : Duty) → Mem d (nexts pool) → Next W pool d
  next_is pool d m =
      let r = keep_mem (may_come_next W pool) pool m in
      record {
        open_d = r.0;
        free = λ y n.
            any_false (λ z. wholly_before z d) (not_true (any (λ z. wholly_before z d) pool) r.1) n;
      }

  is_next : (pool : List Duty) (d : Duty) → Next W pool d → Mem d (nexts pool)
  is_next pool d n =
      keep_in (may_come_next W pool) n.open_d
      (not_of_false (any (λ z. wholly_before z d) pool) (none_any (λ z. wholly_before z d) pool n.free))

  module _ (n : ℕ) (s : State) (pool : List Duty) (d : Duty) where
    abbrev rest : Option (List Duty)
    rest = first_failing W n (after s d) (without W d pool)

    abbrev found_with : Option (List Duty)
    found_with = cond (permitted s d) (in_front d rest) (Some (d ∷ []))

    -- nothing is found: d is permitted, and nothing is found in the rest
    goes_well : found_with ≡ None → (permitted s d ≡ true) × (rest ≡ None)
    goes_well e =
        by_test (permitted s d)
        (λ t. (t, front_none d rest (rw t at e)))
        (λ f. absurd (none-some (d ∷ []) (sym (rw f at e))))

    -- an order is found: d alone, or d in front of what is found in the rest
    goes_wrong :
        (list : List Duty) → found_with ≡ Some list
        → ((permitted s d ≡ false) × (list ≡ d ∷ []))
        ⊎ ((l : List Duty) × (permitted s d ≡ true) × (rest ≡ Some l) × (list ≡ d ∷ l))
    goes_wrong list e =
        by_test (permitted s d)
        (λ t. let (l, found, is) = front_some d rest list (rw t at e) in inr (l, t, found, is))
        (λ f. inl (f, sym (same_Some (d ∷ []) list (rw f at e))))

  -- ---- none exactly if green

  pub none→green :
      (n : ℕ) (s : State) (pool : List Duty) → Pool W pool → length pool ≤ n
      → first_failing W n s pool ≡ None → Green W s pool
  none→green zero s [] P h e =
      λ order o earlier d later q. elim (o.only d (rw q (mid earlier later))) [ ]
  none→green zero s (x ∷ pool) P h e = absurd (not-suc-le-zero h)
  none→green (suc n) s pool P h e =
      (green_steps W s pool P).1 (λ d next.
      let missed = none_found (found_with n s pool) (nexts pool) e (is_next pool d next) in
      let (may, nothing) = goes_well n s pool d missed in (
        may,
        none→green n (after s d) (without W d pool) (without_pool W pool d P)
            (shorter n pool d next.open_d h) nothing,
      ))

  pub some→failing :
      (n : ℕ) (s : State) (pool : List Duty) → Pool W pool → (list : List Duty)
      → first_failing W n s pool ≡ Some list → Failing W s pool list
  some→failing zero s pool P list e = absurd (none-some list e)
  some→failing (suc n) s pool P list e =
      let at = found_at (found_with n s pool) (nexts pool) list e in
      let d = at.x in
      let next = next_is pool d (subst (Mem d) (sym at.is) (mid at.earlier at.later)) in
      let left = without_left W pool d P.distinct next.open_d in
      let P' = without_pool W pool d P in
      ⊎_elim
      (λ (f, is). rw is (failing_now W pool (without W d pool) d next left P' s f))
      (λ (l, t, found, is).
      rw is
      (failing_next W pool (without W d pool) d next left s l t
      (some→failing n (after s d) (without W d pool) P' l found)))
      (goes_wrong n s pool d list at.hit)

  pub green→none :
      (n : ℕ) (s : State) (pool : List Duty) → Pool W pool → Green W s pool → first_failing W n s pool ≡ None
  green→none n s pool P g = go (first_failing W n s pool) refl
    where
      go : (o : Option (List Duty)) → first_failing W n s pool ≡ o → o ≡ None
      go None e = refl
      go (Some list) e =
          absurd (failing_not_green W s pool list (some→failing n s pool P list e) g)

  pub none↔green :
      (n : ℕ) (s : State) (pool : List Duty) → Pool W pool → length pool ≤ n
      → (first_failing W n s pool ≡ None) ↔ Green W s pool
  none↔green n s pool P h = (none→green n s pool P h, green→none n s pool P)

  -- ---- the least by serials

  -- how a failing order begins: with a duty that may come next; it is not permitted, and that is all, or it
  -- is, and a failing order of the rest follows
  record Begins (s : State) (pool list : List Duty) : Type 0 where
    x : Duty
    behind : List Duty
    is : list ≡ x ∷ behind
    next : Next W pool x
    how : (permitted s x ≡ false) ⊎ ((permitted s x ≡ true) × Failing W (after s x) (without W x pool) behind)

  begins : (s : State) (pool list : List Duty) → Pool W pool → Failing W s pool list → Begins s pool list
  begins s pool list P f = go f.earlier f.is f.order f.done f.stuck
    where
      go : (earlier : List Duty) → list ≡ earlier ++ (f.last ∷ [])
          → Order W pool (earlier ++ (f.last ∷ f.later)) → Permitted W s earlier
          → permitted (run W s earlier) f.last ≡ false → Begins s pool list
      go [] is o done stuck =
          record {
            x = f.last;
            behind = [];
            is = is;
            next = order_first W pool f.later f.last P o;
            how = inl stuck;
          }
      go (x ∷ earlier) is o done stuck =
          let others = earlier ++ (f.last ∷ f.later) in
          let next = order_first W pool others x P o in
          let left = without_left W pool x P.distinct next.open_d in
          record {
            x = x;
            behind = earlier ++ (f.last ∷ []);
            is = is;
            next = next;
            how =
                inr (
                  done.0,
                  record {
                    earlier = earlier;
                    last = f.last;
                    later = f.later;
                    is = refl;
                    order = order_next W pool (without W x pool) x next left others o;
                    done = done.1;
                    stuck = stuck;
                  },
                );
          }

  none_first : (l : List ℕ) → ComesFirst l [] → ⊥
  none_first [] c = c
  none_first (x ∷ l) c = c

  -- no failing order comes first of it and the one that is found
  pub first_least :
      (n : ℕ) (s : State) (pool : List Duty) → Pool W pool → Rising W pool → length pool ≤ n
      → (list : List Duty) → first_failing W n s pool ≡ Some list
      → (other : List Duty) → Failing W s pool other → ComesFirst (map serial other) (map serial list) → ⊥
  first_least zero s pool P rise h list e other f c = absurd (none-some list e)
  first_least (suc n) s pool P rise h list e other f c =
      let at = found_at (found_with n s pool) (nexts pool) list e in
      let d = at.x in
      let b = begins s pool other P f in
      let next = next_is pool d (subst (Mem d) (sym at.is) (mid at.earlier at.later)) in
      let lower = not_lower d at.earlier at.later at.is at.missed b in
      ⊎_elim
      (λ (stuck, is). ⊎_elim lower (λ (q, k). none_first (map serial b.behind) k) (rw (b.is, is) at c))
      (λ (l, may, found, is).
      ⊎_elim
      lower
      (λ (q, k).
      let same = same_serial W pool P.distinct b.next.open_d next.open_d q in
      ⊎_elim
      (λ stuck. clash may (rw same at stuck))
      (λ (t, g).
      first_least n (after s d) (without W d pool) (without_pool W pool d P) (pairwise_keep _ _ pool rise)
      (shorter n pool d next.open_d h) l found b.behind
      (subst (λ (y : Duty). Failing W (after s y) (without W y pool) b.behind) same g) k)
      b.how)
      (rw (b.is, is) at c))
      (goes_wrong n s pool d list at.hit)
    where
      -- the first of the other is not lower than d: else it was tried before and leaves a green board
      not_lower : (d : Duty) (earlier later : List Duty) → nexts pool ≡ earlier ++ (d ∷ later)
          → ((z : Duty) → Mem z earlier → found_with n s pool z ≡ None) → (b : Begins s pool other)
          → serial b.x < serial d → ⊥
      not_lower d earlier later is missed b lower =
          at_mid earlier
          (λ m.
          let (may, nothing) = goes_well n s pool b.x (missed b.x m) in
          let green =
          none→green n (after s b.x) (without W b.x pool) (without_pool W pool b.x P)
          (shorter n pool b.x b.next.open_d h) nothing in
          ⊎_elim (clash may) (λ (t, g). failing_not_green W _ _ _ g green) b.how)
          (λ q. let k = ap serial q in omega arith)
          (λ m.
          let rising = subst (Rising W) is (pairwise_keep _ _ pool rise) in
          let k = (pairwise_right _ earlier (d ∷ later) rising).0 b.x m in
          omega arith)
          (subst (Mem b.x) is (is_next pool b.x b.next))
