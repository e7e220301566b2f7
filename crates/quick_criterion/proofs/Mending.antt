-- What mends what a duty x spoils: the earliest end among the duties that x is wholly before and that undo
-- what it sets. One of them is wholly before d just if that end is before d's start.
use mathlib.Core.Path.{◌≡◌, refl, sym, ◌∙◌}
use mathlib.Core.Bool.{Bool, true, false, ◌&&◌, ◌||◌, cond}
use mathlib.Core.List.{List, [], ◌∷◌, ◌++◌}
use Prim.Native.Nat.{ℕ, ◌+◌, ◌≤◌, ◌<◌}
use native.Mathlib.Numerals.{add-one}
use native.Mathlib.Omega.{arith}
use lib.Dec.{ltb}
use lib.ListN.{length, get_or, take}
use lib.Seq.{take-suc}
use borrow.Author.Tests.{le-ltb, ltb-true, ltb-false}
use Rattle.orders.specs.Lists.{any}
use Rattle.orders.proofs.Loops.{or_nothing}
use Rattle.orders.proofs.Tests.{by_test, and_yes, or_left, or_right}
use Rattle.board.specs.declared.Duty.{Duty}
use Rattle.board.specs.Windows.{wholly_before}
use Rattle.quick_criterion.specs.Mends.{last_minute, first_mend}
use Rattle.quick_criterion.specs.Tests.{undoes, mends}

-- ---- the duties in turn

pub first_none : (x : Duty) (best : ℕ) → first_mend x best [] ≡ best
unfolding first_mend
first_none x best = refl

-- the earlier of `best` and the end of g, if g mends what x spoils
abbrev pub earlier_mend : Duty → ℕ → Duty → ℕ
earlier_mend x best g = first_mend x best (g ∷ [])

first_cons :
    (x : Duty) (best : ℕ) (g : Duty) (l : List Duty)
    → first_mend x best (g ∷ l) ≡ first_mend x (earlier_mend x best g) l
unfolding first_mend
first_cons x best g l = refl

-- one duty more
first_more :
    (x : Duty) (best : ℕ) (l : List Duty) (g : Duty)
    → first_mend x best (l ++ (g ∷ [])) ≡ earlier_mend x (first_mend x best l) g
first_more x best [] g = rw (first_none x best)
first_more x best (y ∷ l) g =
    rw
    (first_cons x best y (l ++ (g ∷ [])), first_cons x best y l)
    (first_more x (earlier_mend x best y) l g)

-- the place at hand
pub first_place :
    (x : Duty) (best : ℕ) (l : List Duty) (k : ℕ) (z : Duty) → k < length l
    → first_mend x best (take (k + 1) l) ≡ earlier_mend x (first_mend x best (take k l)) (get_or l k z)
first_place x best l k z h = rw (add-one k, take-suc l k z h) (first_more x best (take k l) (get_or l k z))

-- ---- one of them is wholly before d

pub and_false : (a : Bool) → a && false ≡ false
and_false true = refl
and_false false = refl

either_before : (a b s : ℕ) → ltb (cond (ltb a b) a b) s ≡ ltb a s || ltb b s
either_before a b s =
    by_test
    (ltb a b)
    (λ t. rw t (lesser a b (omega (arith, ltb-true a b t))))
    (λ f. rw f (lesser b a (ltb-false a b f) ∙ or_swap (ltb b s) (ltb a s)))
  where
    lesser : (a b : ℕ) → a ≤ b → ltb a s ≡ ltb a s || ltb b s
    lesser a b h =
        by_test (ltb a s) (λ t. rw t) (λ f. rw (f, le-ltb b s (omega (arith, ltb-false a s f))))

    or_swap : (p q : Bool) → p || q ≡ q || p
    or_swap true true = refl
    or_swap true false = refl
    or_swap false q = sym (or_nothing q)

one_before :
    (x d g : Duty) (best : ℕ)
    → ltb (earlier_mend x best g) d.start ≡ mends x d g || ltb best d.start
unfolding first_mend
one_before x d g best = go (wholly_before x g) (undoes g.what x.what)
  where
    go :
        (a b : Bool)
        → ltb (cond ((a && b) && ltb g.end best) g.end best) d.start
        ≡ ((a && wholly_before g d) && b) || ltb best d.start
    go true true =
        rw (and_yes (wholly_before g d)) (either_before g.end best d.start)
    go true false = rw (and_false (wholly_before g d))
    go false b = refl

before_or_best :
    (x d : Duty) (best : ℕ) (l : List Duty)
    → ltb (first_mend x best l) d.start ≡ any (mends x d) l || ltb best d.start
before_or_best x d best [] = rw (first_none x best)
before_or_best x d best (g ∷ l) =
    rw
    (first_cons x best g l, before_or_best x d (earlier_mend x best g) l, one_before x d g best)
    (across (any (mends x d) l) (mends x d g) (ltb best d.start))
  where
    across : (a b c : Bool) → a || (b || c) ≡ (b || a) || c
    across true b c = sym (or_left (b || true) c (or_right b true refl))
    across false b c = rw (or_nothing b)

pub mended_by :
    (x d : Duty) (l : List Duty) → d.start ≤ last_minute
    → any (mends x d) l ≡ ltb (first_mend x last_minute l) d.start
mended_by x d l h =
    sym
    (before_or_best x d last_minute l
    ∙ rw (le-ltb last_minute d.start h) (or_nothing (any (mends x d) l)))
