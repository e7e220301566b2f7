-- Records whose keys rise: the first alone can have a key that is too low, and the last alone one that is too
-- high.
use mathlib.Core.Path.{◌≡◌, refl, sym, ◌∙◌}
use mathlib.Core.Bool.{Bool, true, ◌&&◌}
use mathlib.Core.List.{List, [], ◌∷◌}
use Prim.Native.Nat.{ℕ, ◌≤◌, ◌<◌}
use native.Mathlib.Omega.{arith}
use lib.Dec.{ltb}
use borrow.Author.Tests.{ltb-true, lt-ltb}
use Rattle.orders.specs.Lists.{all}
use Rattle.orders.proofs.Tests.{and_true, and_both, same_test}
use Rattle.board.specs.Good.{next_above, rising, part_fits}
use Rattle.values.specs.Places.{Tests, climbs}

-- how the records of a part are tested by keys: one fits if its own fields do and its key is between the
-- bounds, and is below another if its key is
pub record Keys {A : Type 0} (t : Tests A) : Type 0 where
  pub own : A → Bool
  pub key : A → ℕ
  pub below_all : ℕ
  pub above_all : ℕ
  pub room : below_all < above_all
  pub fit : (x : A) → t.fits x ≡ own x && (ltb below_all (key x) && ltb (key x) above_all)
  pub order : (x y : A) → own x ≡ true → own y ≡ true → t.below x y ≡ ltb (key x) (key y)

-- each record fits but for its key, and the keys rise and end below the upper bound
abbrev pub rise : {A : Type 0} {t : Tests A} → Keys t → ℕ → List A → Bool
rise k = climbs (λ before x. k.own x && ltb before (k.key x)) k.key k.above_all

module _ {A : Type 0} {t : Tests A} (k : Keys t) where
  -- what a record that fits has
  parts : (x : A) → t.fits x ≡ true → (k.own x ≡ true) × ((k.below_all < k.key x) × (k.key x < k.above_all))
  parts x e =
      let r = and_true (k.own x) _ (sym (k.fit x) ∙ e) in
      let s = and_true (ltb k.below_all (k.key x)) (ltb (k.key x) k.above_all) r.1 in
      (r.0, (ltb-true k.below_all (k.key x) s.0, ltb-true (k.key x) k.above_all s.1))

  -- ---- what climbs fits

  above_next :
      (x : A) (l : List A) → k.own x ≡ true → rise k (k.key x) l ≡ true → next_above t.below x l ≡ true
  above_next x [] o e = refl
  above_next x (y ∷ l) o e =
      let r = and_true (k.own y) (ltb (k.key x) (k.key y)) (and_true _ (rise k (k.key y) l) e).0 in
      k.order x y o r.0 ∙ r.1

  fits_all :
      (before : ℕ) (l : List A) → k.below_all ≤ before → rise k before l ≡ true
      → ((all t.fits l ≡ true) × (rising t.below l ≡ true)) × (before < k.above_all)
  fits_all before [] h e = ((refl, refl), ltb-true before k.above_all e)
  fits_all before (x ∷ l) h e =
      let r = and_true (k.own x && ltb before (k.key x)) (rise k (k.key x) l) e in
      let s = and_true (k.own x) (ltb before (k.key x)) r.0 in
      let above : before < k.key x = ltb-true before (k.key x) s.1 in
      let rest = fits_all (k.key x) l (omega arith) r.1 in
      let low = lt-ltb k.below_all (k.key x) (omega arith) in
      let between = and_both (ltb k.below_all (k.key x)) _ low (lt-ltb (k.key x) k.above_all rest.1) in
      let fits = k.fit x ∙ and_both (k.own x) _ s.0 between in (
        (
          and_both (t.fits x) (all t.fits l) fits rest.0.0,
          and_both (next_above t.below x l) (rising t.below l) (above_next x l s.0 r.1) rest.0.1,
        ),
        omega (arith, rest.1),
      )

  -- ---- what fits climbs

  -- the first of these, if there is one, has a key above the one before
  abbrev after : ℕ → List A → Bool
  after before [] = true
  after before (x ∷ l) = ltb before (k.key x)

  after_first : (l : List A) → all t.fits l ≡ true → after k.below_all l ≡ true
  after_first [] e = refl
  after_first (x ∷ l) e =
      lt-ltb k.below_all (k.key x) (parts x (and_true (t.fits x) (all t.fits l) e).0).1.0

  after_one :
      (x : A) (l : List A) → k.own x ≡ true → all t.fits l ≡ true → next_above t.below x l ≡ true
      → after (k.key x) l ≡ true
  after_one x [] o e f = refl
  after_one x (y ∷ l) o e f =
      sym (k.order x y o (parts y (and_true (t.fits y) (all t.fits l) e).0).0) ∙ f

  climbs_all :
      (before : ℕ) (l : List A) → before < k.above_all → all t.fits l ≡ true → rising t.below l ≡ true
      → after before l ≡ true → rise k before l ≡ true
  climbs_all before [] h e f g = lt-ltb before k.above_all h
  climbs_all before (x ∷ l) h e f g =
      let r = and_true (t.fits x) (all t.fits l) e in
      let s = and_true (next_above t.below x l) (rising t.below l) f in
      let p = parts x r.0 in
      and_both (k.own x && ltb before (k.key x)) (rise k (k.key x) l)
      (and_both (k.own x) (ltb before (k.key x)) p.0 g)
      (climbs_all (k.key x) l p.1.1 r.1 s.1 (after_one x l p.0 r.1 s.0))

  pub by_keys : (l : List A) → rise k k.below_all l ≡ part_fits t.fits t.below l
  by_keys l =
      same_test _ _
      (λ e.
      let r = fits_all k.below_all l (omega arith) e in
      and_both (all t.fits l) (rising t.below l) r.0.0 r.0.1)
      (λ e.
      let r = and_true (all t.fits l) (rising t.below l) e in
      climbs_all k.below_all l k.room r.0 r.1 (after_first l r.0))
