-- An allowed order exists, and any list of open duties can begin one if it is spaced and leaves out no duty
-- wholly before one of its own. The idea: put each duty in front of the first that it is wholly before; that
-- sorts the whole pool into an order. To let a list begin an order, write down after it what it leaves out,
-- sorted so.
use mathlib.Core.Path.{◌≡◌, refl, sym, ◌∙◌, ap}
use mathlib.Core.Logic.{◌≢◌, ⊎_elim}
use mathlib.Core.Bool.{Bool, true, false, not, cond}
use mathlib.Core.List.Memᴰ
use mathlib.Core.List.{
  List,
  [],
  ◌∷◌,
  ◌++◌,
}
use lib.Dec.{eqb}
use borrow.Author.Tests.{eqb-true, eq-eqb}
use Rattle.orders.specs.Lists.{Mem, here, there, any, keep, Pairwise}
use Rattle.orders.specs.Orders.{World, Order, Distinct, MayFollow, Pool, run}
use Rattle.orders.specs.Beginnings.{Beginning}
use Rattle.orders.proofs.Tests.{by_test, clash, is_false, not_true, not_of_false}
use Rattle.orders.proofs.Lists.{
  any_true,
  any_mem,
  keep_mem,
  keep_in,
  pairwise_keep,
  pairwise_append,
  pairwise_left,
  pairwise_across,
  under,
}

module _ (W : World) where
  open W use {Duty, State, serial, wholly_before, after}

  pub run_append : (s : State) (a b : List Duty) → run W s (a ++ b) ≡ run W (run W s a) b
  run_append s [] b = refl
  run_append s (x ∷ a) b = run_append (after s x) a b

  -- two duties with one serial are one
  pub same_serial :
      (pool : List Duty) → Distinct W pool → {x y : Duty} → Mem x pool → Mem y pool → serial x ≡ serial y
      → x ≡ y
  same_serial [] h {x = x} {y = y} x6 _ e = elim x6 [ ]
  same_serial (z ∷ l) h (here p) (here q) e = p ∙ sym q
  same_serial (z ∷ l) h {y = y} (here p) (there n) e = absurd (h.0 y n (sym (ap serial p) ∙ e))
  same_serial (z ∷ l) h {x} (there m) (here q) e = absurd (h.0 x m (sym (ap serial q) ∙ sym e))
  same_serial (z ∷ l) h (there m) (there n) e = same_serial l h.1 m n e

  -- ---- each duty is put in front of the first that it is wholly before

  abbrev pub insert : Duty → List Duty → List Duty
  insert x [] = x ∷ []
  insert x (y ∷ l) = cond (wholly_before x y) (x ∷ (y ∷ l)) (y ∷ insert x l)

  abbrev pub sort : List Duty → List Duty
  sort [] = []
  sort (x ∷ l) = insert x (sort l)

  insert_mem : (x : Duty) (l : List Duty) {z : Duty} → Mem z (insert x l) → Mem z (x ∷ l)
  insert_mem x [] m = m
  insert_mem x (y ∷ l) {z} m = go (insert_mem x l) (wholly_before x y) m
    where
      swap : Mem z (x ∷ l) → Mem z (x ∷ (y ∷ l))
      swap (here p) = here p
      swap (there n) = there (there n)

      go :
          (Mem z (insert x l) → Mem z (x ∷ l)) → (b : Bool)
          → Mem z (cond b (x ∷ (y ∷ l)) (y ∷ insert x l)) → Mem z (x ∷ (y ∷ l))
      go f true n = n
      go f false (here p) = there (here p)
      go f false (there n) = swap (f n)

  insert_in : (x : Duty) (l : List Duty) {z : Duty} → Mem z (x ∷ l) → Mem z (insert x l)
  insert_in x [] m = m
  insert_in x (y ∷ l) {z} m = go (insert_in x l) (wholly_before x y) m
    where
      go :
          (Mem z (x ∷ l) → Mem z (insert x l)) → (b : Bool) → Mem z (x ∷ (y ∷ l))
          → Mem z (cond b (x ∷ (y ∷ l)) (y ∷ insert x l))
      go f true n = n
      go f false (here p) = there (f (here p))
      go f false (there (here p)) = here p
      go f false (there (there n)) = there (f (there n))

  pub sort_mem : (l : List Duty) {z : Duty} → Mem z (sort l) → Mem z l
  sort_mem [] {z = z} m = elim m [ ]
  sort_mem (x ∷ l) m = under (sort_mem l) (insert_mem x (sort l) m)

  pub sort_in : (l : List Duty) {z : Duty} → Mem z l → Mem z (sort l)
  sort_in [] {z = z} m = elim m [ ]
  sort_in (x ∷ l) m = insert_in x (sort l) (under (sort_in l) m)

  -- a duty with this serial is in the list; the rest is what the list leaves out of the pool, sorted
  abbrev pub listed : List Duty → Duty → Bool
  listed ds y = any (λ z. eqb (serial z) (serial y)) ds

  abbrev pub rest : List Duty → List Duty → List Duty
  rest pool ds = keep (λ y. not (listed ds y)) (sort pool)

  pub mem_listed : (ds : List Duty) (y : Duty) → Mem y ds → listed ds y ≡ true
  mem_listed ds y m = any_mem (λ z. eqb (serial z) (serial y)) m (eq-eqb (serial y) (serial y) refl)

  module _ (pool : List Duty) (P : Pool W pool) where
    pub one : {x y : Duty} → Mem x pool → Mem y pool → serial x ≡ serial y → x ≡ y
    one m n e = same_serial pool P.distinct m n e

    -- wholly before goes one way only
    pub one_way :
        (x y : Duty) → Mem x pool → Mem y pool → wholly_before x y ≡ true → wholly_before y x ≡ false
    one_way x y m n p =
        is_false (wholly_before y x) (λ q. clash (P.transitive x y x m n m p q) (P.irreflexive x m))

    insert_spaced :
        (x : Duty) (l : List Duty) → Mem x pool → ((y : Duty) → Mem y l → Mem y pool)
        → ((y : Duty) → Mem y l → serial x ≢ serial y) → Pairwise (MayFollow W) l
        → Pairwise (MayFollow W) (insert x l)
    insert_spaced x [] mx ml apart h = (λ y m. elim m [ ], tt)
    insert_spaced x (y ∷ l) mx ml apart h =
        go
        (wholly_before x y)
        refl
        (insert_spaced x l mx (λ z m. ml z (there m)) (λ z m. apart z (there m)) h.1)
      where
        -- x is wholly before y, so nothing from y on is wholly before x
        first : wholly_before x y ≡ true → (z : Duty) → Mem z (y ∷ l) → wholly_before z x ≡ false
        first e z (here p) = rw p (one_way x y mx (ml y (here refl)) e)
        first e z (there m) =
            is_false
            (wholly_before z x)
            (λ q. clash (P.transitive z x y (ml z (there m)) mx (ml y (here refl)) q e) (h.0 z m).1)

        later : wholly_before x y ≡ false → (z : Duty) → Mem z (x ∷ l) → MayFollow W y z
        later e z (here p) = (λ q. apart y (here refl) (sym (ap serial p) ∙ sym q), rw p e)
        later e z (there m) = h.0 z m

        go :
            (b : Bool) → wholly_before x y ≡ b → Pairwise (MayFollow W) (insert x l)
            → Pairwise (MayFollow W) (cond b (x ∷ (y ∷ l)) (y ∷ insert x l))
        go true e k = (λ z m. (apart z m, first e z m), h)
        go false e k = (λ z m. later e z (insert_mem x l m), k)

    part_spaced :
        (l : List Duty) → ((y : Duty) → Mem y l → Mem y pool) → Distinct W l
        → Pairwise (MayFollow W) (sort l)
    part_spaced [] ml h = tt
    part_spaced (x ∷ l) ml h =
        insert_spaced
        x
        (sort l)
        (ml x (here refl))
        (λ y m. ml y (there (sort_mem l m)))
        (λ y m. h.0 y (sort_mem l m))
        (part_spaced l (λ y m. ml y (there m)) h.1)

    pub sort_spaced : Pairwise (MayFollow W) (sort pool)
    sort_spaced = part_spaced pool (λ y m. m) P.distinct

    -- an allowed order exists
    pub sort_order : Order W pool (sort pool)
    sort_order = record { every = λ d m. sort_in pool m; only = λ d m. sort_mem pool m; spaced = sort_spaced }

    -- ---- beginnings are just what allowed orders begin with

    pub listed_mem :
        (ds : List Duty) → ((d : Duty) → Mem d ds → Mem d pool) → (y : Duty) → Mem y pool
        → listed ds y ≡ true → Mem y ds
    listed_mem ds only y m e =
        let r = any_true (λ z. eqb (serial z) (serial y)) ds e in
        let same = eqb-true (serial r.0) (serial y) r.2 in
        Memᴰ.cast (one m (only r.0 r.1) (sym same)) r.1

    pub begin : (ds : List Duty) → Beginning W pool ds → Order W pool (ds ++ rest pool ds)
    begin ds b =
        record {
          every = every;
          only = λ d m. ⊎_elim (b.only d) (λ n. (left_out d n).0) (Memᴰ.append_cases ds m);
          spaced =
              pairwise_append
              (MayFollow W)
              ds
              (rest pool ds)
              b.spaced
              (pairwise_keep (MayFollow W) _ (sort pool) sort_spaced)
              across;
        }
      where
        left_out : (y : Duty) → Mem y (rest pool ds) → Mem y pool × (listed ds y ≡ false)
        left_out y m =
            let r = keep_mem (λ y. not (listed ds y)) (sort pool) m in
            (sort_mem pool r.0, not_true (listed ds y) r.1)

        every : (d : Duty) → Mem d pool → Mem d (ds ++ rest pool ds)
        every d m =
            by_test
            (listed ds d)
            (λ e. Memᴰ.append_left (rest pool ds) (listed_mem ds b.only d m e))
            (λ e.
            Memᴰ.append_right
            ds
            (keep_in (λ y. not (listed ds y)) (sort_in pool m) (not_of_false (listed ds d) e)))

        across : (x y : Duty) → Mem x ds → Mem y (rest pool ds) → MayFollow W x y
        across x y m n =
            let (n', out) = left_out y n in (
              λ e. clash (any_mem (λ z. eqb (serial z) (serial y)) m (eq-eqb (serial x) (serial y) e)) out,
              is_false (wholly_before y x) (λ e. clash (mem_listed ds y (b.closed x y m n' e)) out),
            )

    pub begun : (ds later : List Duty) → Order W pool (ds ++ later) → Beginning W pool ds
    begun ds later o =
        record {
          only = λ d m. o.only d (Memᴰ.append_left later m);
          spaced = pairwise_left (MayFollow W) ds later o.spaced;
          closed = λ y z m n e.
              ⊎_elim
              (λ k. k)
              (λ k. clash e (pairwise_across (MayFollow W) ds later o.spaced m k).1)
              (Memᴰ.append_cases ds (o.every z n));
        }
