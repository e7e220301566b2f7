-- A failing order given by its serials, checked by a function: it looks up the duties, and tests that they
-- are spaced, leave out no duty wholly before one of their own, and are permitted in turn but for the last.
-- Used where a board is written out, as in the table of the marked cases.
use mathlib.Core.Path.{◌≡◌, refl, ap, ap₂}
use mathlib.Core.Logic.{⊎_elim}
use mathlib.Core.Bool.{Bool, true, false, not, ◌&&◌, ◌||◌}
use mathlib.Core.List.Memᴰ
use mathlib.Core.List.{List, [], ◌∷◌, ◌++◌, map}
use Prim.Native.Nat.{ℕ}
use lib.Dec.{eqb}
use borrow.Author.Tests.{eqb-true, eqb-false}
use Rattle.orders.specs.Lists.{Mem, all, keep, Pairwise}
use Rattle.orders.specs.Orders.{World, Pool, MayFollow, FailingSerials}
use Rattle.orders.specs.Beginnings.{Beginning, FailsLast}
use Rattle.orders.proofs.Tests.{clash, or_true, and_true, not_true}
use Rattle.orders.proofs.Lists.{all_mem, keep_mem}
use Rattle.orders.proofs.Build.{listed, listed_mem}
use Rattle.orders.proofs.Failing.{failing_by}

-- ---- tests of lists

module _ {A : Type 0} where
  -- every member passes the test with every later one
  abbrev pub pairwise : (A → A → Bool) → List A → Bool
  pairwise p [] = true
  pairwise p (x ∷ l) = all (p x) l && pairwise p l

  pub pairwise_is :
      (p : A → A → Bool) (R : A → A → Type 0) → ((x y : A) → p x y ≡ true → R x y) → (l : List A)
      → pairwise p l ≡ true → Pairwise R l
  pairwise_is p R f [] e = tt
  pairwise_is p R f (x ∷ l) e =
      let r = and_true (all (p x) l) (pairwise p l) e in
      (λ y m. f x y (all_mem (p x) r.0 m), pairwise_is p R f l r.1)

abbrev pub same_numbers : List ℕ → List ℕ → Bool
same_numbers [] [] = true
same_numbers [] (y ∷ m) = false
same_numbers (x ∷ l) [] = false
same_numbers (x ∷ l) (y ∷ m) = eqb x y && same_numbers l m

pub same_numbers_is : (l m : List ℕ) → same_numbers l m ≡ true → l ≡ m
same_numbers_is [] [] e = refl
same_numbers_is [] (y ∷ m) e = clash e refl
same_numbers_is (x ∷ l) [] e = clash e refl
same_numbers_is (x ∷ l) (y ∷ m) e =
    let r = and_true (eqb x y) (same_numbers l m) e in
    ap₂ ◌∷◌ (eqb-true x y r.0) (same_numbers_is l m r.1)

module _ (W : World) where
  open W use {Duty, State, serial, wholly_before, permitted, after}

  -- ---- the test of a failing order, part by part

  -- the duties of the pool with these serials
  abbrev pub with_serials : List Duty → List ℕ → List Duty
  with_serials pool [] = []
  with_serials pool (n ∷ ns) = keep (λ d. eqb (serial d) n) pool ++ with_serials pool ns

  abbrev pub may_follow : Duty → Duty → Bool
  may_follow x y = not (eqb (serial x) (serial y)) && not (wholly_before y x)

  abbrev pub closed_below : List Duty → List Duty → Bool
  closed_below pool ds = all (λ y. all (λ z. not (wholly_before z y) || listed W ds z) pool) ds

  abbrev pub fails_last : State → List Duty → Bool
  fails_last s [] = false
  fails_last s (d ∷ []) = not (permitted s d)
  fails_last s (d ∷ (e ∷ l)) = permitted s d && fails_last (after s d) (e ∷ l)

  abbrev pub failing : State → List Duty → List ℕ → Bool
  failing s pool ns =
      let ds = with_serials pool ns in
      same_numbers (map serial ds) ns && (pairwise may_follow ds && (closed_below pool ds && fails_last s ds))

  -- ---- each part says what it should

  with_serials_only : (pool : List Duty) (ns : List ℕ) (y : Duty) → Mem y (with_serials pool ns) → Mem y pool
  with_serials_only pool [] y m = elim m [ ]
  with_serials_only pool (n ∷ ns) y m =
      ⊎_elim
      (λ k. (keep_mem _ pool k).0)
      (with_serials_only pool ns y)
      (Memᴰ.append_cases (keep (λ d. eqb (serial d) n) pool) m)

  may_follow_is : (x y : Duty) → may_follow x y ≡ true → MayFollow W x y
  may_follow_is x y e =
      let r = and_true (not (eqb (serial x) (serial y))) (not (wholly_before y x)) e in (
        eqb-false (serial x) (serial y) (not_true (eqb (serial x) (serial y)) r.0),
        not_true (wholly_before y x) r.1,
      )

  pub fails_last_is : (s : State) (list : List Duty) → fails_last s list ≡ true → FailsLast W s list
  fails_last_is s [] e = clash e refl
  fails_last_is s (d ∷ []) e =
      record { earlier = []; last = d; is = refl; done = tt; stuck = not_true (permitted s d) e }
  fails_last_is s (d ∷ (x ∷ l)) e =
      let t = and_true (permitted s d) (fails_last (after s d) (x ∷ l)) e in
      let r = fails_last_is (after s d) (x ∷ l) t.1 in
      record {
        earlier = d ∷ r.earlier;
        last = r.last;
        is = ap (λ (m : List Duty). d ∷ m) r.is;
        done = (t.0, r.done);
        stuck = r.stuck;
      }

  module _ (s : State) (pool : List Duty) (P : Pool W pool) where
    closed_below_is :
        (ds : List Duty) → ((d : Duty) → Mem d ds → Mem d pool) → closed_below pool ds ≡ true → (y z : Duty)
        → Mem y ds → Mem z pool → wholly_before z y ≡ true → Mem z ds
    closed_below_is ds only e y z m n b =
        ⊎_elim
        (λ k. clash b (not_true (wholly_before z y) k))
        (listed_mem W pool P ds only z n)
        (or_true (not (wholly_before z y)) (listed W ds z) (all_mem (in_list y) (all_mem in_all e m) n))
      where
        in_list : Duty → Duty → Bool
        in_list y z = not (wholly_before z y) || listed W ds z

        in_all : Duty → Bool
        in_all y = all (in_list y) pool

    pub failing_is : (ns : List ℕ) → failing s pool ns ≡ true → FailingSerials W s pool ns
    failing_is ns e =
        let a = and_true (same_numbers (map serial ds) ns) _ e in
        let b = and_true (pairwise may_follow ds) _ a.1 in
        let c = and_true (closed_below pool ds) (fails_last s ds) b.1 in
        record {
          list = ds;
          named = same_numbers_is (map serial ds) ns a.0;
          failing = failing_by W s pool P ds (beginning b.0 c.0) (fails_last_is s ds c.1);
        }
      where
        ds : List Duty
        ds = with_serials pool ns

        beginning : pairwise may_follow ds ≡ true → closed_below pool ds ≡ true → Beginning W pool ds
        beginning b c =
            record {
              only = with_serials_only pool ns;
              spaced = pairwise_is may_follow (MayFollow W) may_follow_is ds b;
              closed = closed_below_is ds (with_serials_only pool ns) c;
            }
