-- The records of a part, told one after another: the record at hand fits, and it and those that are left tell
-- of them all.
use mathlib.Core.Path.{◌≡◌, refl, ◌∙◌}
use mathlib.Core.Bool.{Bool, true, false, ◌&&◌}
use mathlib.Core.List.{List, ◌∷◌}
use Prim.Native.Nat.{ℕ, ◌+◌, ◌≤◌, ◌<◌}
use native.Mathlib.Numerals.{add-one}
use lib.ListN.{length, get_or, drop, drop_of_length-le}
use lib.Seq.{drop-cons}
use Rattle.orders.proofs.Tests.{and_left}
use Rattle.board.specs.Good.{part_fits}

-- the loop's invariant, where x is at hand and those from place i on are left
pub record RestTells
    {A : Type 0} (f : A → Bool) (r : A → A → Bool) (whole : List A) (x : A) (l : List A) (i : ℕ) : Type 0 where
  pub fits : f x ≡ true
  pub tells : part_fits f r whole ≡ part_fits f r (x ∷ drop i l)

regroup : (a q z u : Bool) → (a && z) && (q && u) ≡ (a && q) && ((a && z) && u)
regroup false q z u = refl
regroup true true z u = refl
regroup true false true u = refl
regroup true false false u = refl

module _ {A : Type 0} {f : A → Bool} {r : A → A → Bool} {whole : List A} where
  pub begins :
      {x : A} {l : List A} {a : Bool} → whole ≡ x ∷ l → a ≡ f x → a ≡ true → RestTells f r whole x l 0
  begins is told e = record { fits = rw (← told) e; tells = rw is }

  module _ {x : A} {l : List A} {i : ℕ} (known : RestTells f r whole x l i) where
    -- in a turn y comes, which fits or not, and is above x or not
    module _ {y : A} (more : i < length l) (is : y ≡ get_or l i y) {a b : Bool} (fit : a ≡ f y)
        (above : b ≡ r x y) where
      one_more : part_fits f r whole ≡ (a && b) && part_fits f r (y ∷ drop (i + 1) l)
      one_more =
          known.tells
          ∙ rw (rest, known.fits, fit, above) (regroup (f y) (r x y) _ _)
        where
          rest : drop i l ≡ y ∷ drop (i + 1) l
          rest = rw (add-one i) (drop-cons l i y more ∙ rw (← is))

      pub fails : a && b ≡ false → false ≡ part_fits f r whole
      fails e = rw (one_more, e)

      pub passes : a && b ≡ true → RestTells f r whole y l (i + 1)
      passes e = record { fits = rw (← fit) (and_left a b e); tells = one_more ∙ rw e }

    -- at the end x alone is left
    pub ends : length l ≤ i → true ≡ part_fits f r whole
    ends none = rw (known.tells, drop_of_length-le l {i = i} none, known.fits)
