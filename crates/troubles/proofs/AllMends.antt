-- The earliest end of a duty that mends what another spoils, in numbers and of duties.
use mathlib.Core.Path.{◌≡◌, refl, sym, ap, ◌∙◌}
use mathlib.Core.Bool.{Bool, ◌&&◌, cond}
use mathlib.Core.List.{List, [], ◌∷◌, map}
use Prim.Native.Nat.{ℕ, ◌≤◌, ◌<◌}
use lib.Dec.{ltb}
use lib.ListN.{length, take, get_or, length-map}
use lib.Seq.{length-take-le, get_or-take}
use Rattle.std.specs.List.{fold}
use Rattle.orders.proofs.Loops.{get_d_map}
use Rattle.board.specs.declared.Duty.{Duty}
use Rattle.board.specs.Filler.{no_duty}
use Rattle.board.specs.Windows.{wholly_before}
use Rattle.troubles.specs.declared.setting.Setter.{Setter}
use Rattle.troubles.specs.Setting.{setter_of}
use Rattle.troubles.specs.Mending.{mends, earlier_mend, mend_of}
use Rattle.quick_criterion.specs.Mends.{last_minute, first_mend}
use Rattle.quick_criterion.specs.Tests.{undoes}
use Rattle.troubles.proofs.Bits.{undoes_is}

-- ---- the first m places hold what f makes of a list

module _
    {A B : Type 0} (f : A → B) (out : List B) (m : ℕ) (l : List A) (are : take m out ≡ map f l)
    (fits : m ≤ length out)
  where
    pub as_many : length l ≡ m
    as_many = sym (length-map l f) ∙ ap length (sym are) ∙ length-take-le m out fits

    pub at_place : (k : ℕ) (z : B) (d : A) → k < m → get_or out k z ≡ f (get_or l k d)
    at_place k z d h =
        sym (get_or-take m out k z h)
        ∙ ap (λ (t : List B). get_or t k z) are
        ∙ get_d_map f l k z d (rw as_many h)

-- ---- all setters are what those of a list set

module _ {setters : List Setter} (l : List Duty) (is_l : setters ≡ map setter_of l) where
  pub many : length l ≡ length setters
  many = sym (length-map l setter_of) ∙ ap length (sym is_l)

  pub setter_at :
      {k : ℕ} → k < length setters → (z : Setter) → get_or setters k z ≡ setter_of (get_or l k no_duty)
  setter_at {k} h z = rw is_l (get_d_map setter_of l k z no_duty (rw many h))

-- ---- what mends

-- the earliest end of a duty of l that mends what x spoils
abbrev pub mend_in : List Duty → Duty → ℕ
mend_in l x = first_mend x last_minute l

mends_is : (y h : Duty) → mends (setter_of y) (setter_of h) ≡ wholly_before y h && undoes h.what y.what
mends_is y h = ap (λ (b : Bool). wholly_before y h && b) (sym (undoes_is h.what y.what))

fold_is :
    (y : Duty) (best : ℕ) (l : List Duty)
    → fold (earlier_mend (setter_of y)) best (map setter_of l) ≡ first_mend y best l
unfolding first_mend
fold_is y best [] = refl
fold_is y best (h ∷ l) =
    rw (fold, mends_is y h)
    (fold_is y (cond ((wholly_before y h && undoes h.what y.what) && ltb h.end best) h.end best) l)

each_mend :
    (all l : List Duty) → map (mend_of (map setter_of all)) (map setter_of l) ≡ map (mend_in all) l
each_mend all [] = refl
each_mend all (y ∷ l) = rw (fold_is y last_minute all, each_mend all l)

pub mends_are :
    {setters : List Setter} (l : List Duty) → setters ≡ map setter_of l
    → map (mend_of setters) setters ≡ map (mend_in l) l
mends_are l e = rw e (each_mend l l)
