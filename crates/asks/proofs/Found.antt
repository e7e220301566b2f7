-- What a search by halving answers is what `find` does: where records rise by a pair of numbers, so do their
-- keys, and a record with the sought pair stands at no other place.
use mathlib.Core.Path.{◌≡◌, refl, ◌∙◌, ap}
use mathlib.Core.Logic.{⊎_elim}
use mathlib.Core.Bool.{Bool, true, false, ◌&&◌}
use mathlib.Core.List.{List, [], ◌∷◌, map}
use Rattle.std.specs.Prelude.{Option, None, Some}
use Rattle.std.proofs.lemmas.List.{length-map}
use Prim.Native.Nat.{ℕ, zero, suc, ◌-◌, ◌<◌}
use native.Mathlib.Nat.{le_of_suc-le-suc, not-suc-le-zero}
use native.Mathlib.Omega.{arith}
use lib.Dec.{eqb, ltb}
use lib.ListN.{length, get_or}
use lib.Seq.{take-length}
use borrow.Author.Tests.{eqb-true, eq-eqb, ltb-true, ltb-false}
use Rattle.orders.specs.Lists.{Mem, here, there, find}
use Rattle.orders.proofs.Tests.{by_test, is_false, and_left, and_right, and_both, or_true}
use Rattle.orders.proofs.Loops.{take_mem, mem_take, get_d_map}
use Rattle.board.specs.Good.{pair_below}
use Rattle.asks.specs.Halved.{Halved}
use Rattle.asks.specs.Keys.{span, key_of, Rising}

-- a place of a list has a member
at_place : {A : Type 0} (l : List A) (i : ℕ) (z : A) → i < length l → Mem (get_or l i z) l
at_place l i z h = rw (take-length l) at (take_mem l (length l) i z h h)

-- the record at the place, if there is one
abbrev pub found_at : {A : Type 0} → List A → A → Option ℕ → Option A
found_at l z None = None
found_at l z (Some at) = Some (get_or l at z)

module _ {A : Type 0} (first second : A → ℕ) (a b : ℕ) where
  abbrev Below : A → A → Type 0
  Below x y = pair_below (first x) (second x) (first y) (second y) ≡ true

  abbrev pub key_by : A → ℕ
  key_by x = key_of (first x) (second x)

  abbrev pub has_both : A → Bool
  has_both x = eqb (first x) a && eqb (second x) b

  -- the pair is told by the key
  both : (x : A) → has_both x ≡ true → key_by x ≡ key_of a b
  both x e =
      let one = eqb-true (first x) a (and_left (eqb (first x) a) (eqb (second x) b) e) in
      let two = eqb-true (second x) b (and_right (eqb (first x) a) (eqb (second x) b) e) in
      rw (one, two) refl

  same_key : b < span → (x : A) → second x < span → key_by x ≡ key_of a b → has_both x ≡ true
  same_key h x k e =
      let one : first x ≡ a = omega arith in
      let two : second x ≡ b = omega arith in
      and_both (eqb (first x) a) (eqb (second x) b) (eq-eqb (first x) a one) (eq-eqb (second x) b two)

  rises : (x y : A) → second x < span → Below x y → key_by x < key_by y
  rises x y h e =
      ⊎_elim
      (λ t. let k = ltb-true (first x) (first y) t in omega arith)
      (λ t.
      let same =
      eqb-true (first x) (first y)
      (and_left (eqb (first x) (first y)) (ltb (second x) (second y)) t) in
      let k =
      ltb-true (second x) (second y)
      (and_right (eqb (first x) (first y)) (ltb (second x) (second y)) t) in
      omega arith)
      (or_true (ltb (first x) (first y)) (eqb (first x) (first y) && ltb (second x) (second y)) e)

  -- among records that rise the pair stands at one place alone,
  find_at :
      (l : List A) → Rising first second l → (at : ℕ) (z : A) → at < length l
      → has_both (get_or l at z) ≡ true
      → find has_both l ≡ Some (get_or l at z)
  find_at [] known at z h e = absurd (not-suc-le-zero h)
  find_at (x ∷ l) known zero z h e = rw e refl
  find_at (x ∷ l) known (suc at) z h e =
      let y = get_or l at z in
      let member = at_place l at z (le_of_suc-le-suc h) in
      let less = rises x y (known.small x (here refl)) (known.rise.0 y member) in
      let not_yet : has_both x ≡ false =
      is_false (has_both x) (λ t. let k = both x t in let m = both y e in omega arith) in
      rw not_yet
      (find_at l (record { small = λ w m. known.small w (there m); rise = known.rise.1 }) at z
      (le_of_suc-le-suc h) e)

  -- and where it stands at none, it is not found
  find_nowhere : (l : List A) → ((x : A) → Mem x l → has_both x ≡ false) → find has_both l ≡ None
  find_nowhere [] f = refl
  find_nowhere (x ∷ l) f = rw (f x (here refl)) (find_nowhere l (λ y m. f y (there m)))

  rising_keys :
      (l : List A) → Rising first second l → (i j : ℕ) (z : A) → i < j → j < length l
      → key_by (get_or l i z) < key_by (get_or l j z)
  rising_keys [] known i j z h k = absurd (not-suc-le-zero k)
  rising_keys (x ∷ l) known i zero z h k = absurd (not-suc-le-zero h)
  rising_keys (x ∷ l) known zero (suc j) z h k =
      rises x (get_or l j z) (known.small x (here refl))
      (known.rise.0 _ (at_place l j z (le_of_suc-le-suc k)))
  rising_keys (x ∷ l) known (suc i) (suc j) z h k =
      rising_keys l (record { small = λ w m. known.small w (there m); rise = known.rise.1 }) i j z
      (le_of_suc-le-suc h) (le_of_suc-le-suc k)

  module _ (l : List A) (known : Rising first second l) (small : b < span) (z : A) {at : ℕ}
      {keys : List ℕ} (are : keys ≡ map key_by l) {sought : ℕ} (is_key : sought ≡ key_of a b)
      (search_is : Halved keys (length keys) sought at) where
    halved : Halved (map key_by l) (length l) (key_of a b) at
    halved = rw (are, length-map l key_by, is_key) at search_is

    key_at : (i : ℕ) → i < length l → get_or (map key_by l) i 0 ≡ key_by (get_or l i z)
    key_at i h = get_d_map key_by l i 0 z h

    -- the record at the place is the one that is found,
    pub found_there :
        at < length l → key_by (get_or l at z) ≡ key_of a b → find has_both l ≡ Some (get_or l at z)
    found_there h e =
        find_at l known at z h (same_key small (get_or l at z) (known.small _ (at_place l at z h)) e)

    -- and where its key is another, or there is none, nothing is found
    pub found_nowhere : (at < length l → key_by (get_or l at z) ≡ key_of a b → ⊥) → find has_both l ≡ None
    found_nowhere other = find_nowhere l missed
      where
        missed : (x : A) → Mem x l → has_both x ≡ false
        missed x m =
            is_false
            (has_both x)
            (λ t.
            let (j, h, k, is) = mem_take l (length l) z (rw (← take-length l) at m) in
            let same = ap key_by is ∙ both x t in
            by_test
            (ltb j at)
            (λ e.
            let inside = halved.inside in
            let less =
            rw (key_at (at - 1) (omega (arith, ltb-true j at e))) at
            (halved.lower (at - 1) (omega (arith, ltb-true j at e))) in
            by_test
            (ltb j (at - 1))
            (λ f.
            let up =
            rising_keys l known j (at - 1) z (ltb-true j (at - 1) f) (omega (arith, ltb-true j at e)) in
            omega arith)
            (λ f.
            let here : j ≡ at - 1 = omega (arith, ltb-true j at e, ltb-false j (at - 1) f) in
            omega (arith, rw here at same)))
            (λ e.
            let before = ltb-false j at e in
            let in_list : at < length l = omega arith in
            let most = rw (key_at at in_list) at (halved.higher in_list) in
            by_test
            (ltb at j)
            (λ f. let up = rising_keys l known at j z (ltb-true at j f) h in omega arith)
            (λ f.
            let here : j ≡ at = omega (arith, ltb-false at j f) in
            absurd (other in_list (rw here at same)))))
