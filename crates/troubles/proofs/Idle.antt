-- A duty that sets nothing changes nothing: the tests over the duties that set a holding are those over the
-- whole pool.
use mathlib.Core.Path.{◌≡◌, refl, ap}
use mathlib.Core.Bool.{Bool, false, not, ◌&&◌, ◌||◌}
use Rattle.std.specs.Prelude.{Some}
use mathlib.Core.List.{List, [], ◌∷◌}
use Prim.Native.Nat.{ℕ}
use lib.Dec.{eqb}
use Rattle.orders.specs.Lists.{any, keep}
use Rattle.orders.proofs.Tests.{by_test, clash}
use Rattle.asks.specs.declared.Ask.{Ask}
use Rattle.board.specs.declared.Duty.{Duty}
use Rattle.board.specs.declared.What.{What}
use Rattle.board.specs.declared.What.TheVariants.{Grant, Revoke, Use}
use Rattle.board.specs.Windows.{wholly_before}
use Rattle.troubles.specs.Setting.{sets_one}
use Rattle.quick_criterion.specs.Tests.{granted, revoked, needs_opposite, undoes, mends, makes_wrong}
use Rattle.quick_criterion.proofs.Mending.{and_false}

-- ---- what such a duty does not do

-- this sets nothing
pub record Idle (what : What) : Type 0 where
  pub grants_nothing : (user set : ℕ) → granted user what set ≡ set
  pub revokes_nothing : (user set : ℕ) → revoked user what set ≡ set
  pub undoes_nothing : (other : What) → undoes what other ≡ false
  pub against_nothing : (doer : ℕ) (ask : Ask) → needs_opposite doer ask what ≡ false

-- the duty, with something else to do
abbrev doing : Duty → What → Duty
doing d what = record { serial = d.serial; doer = d.doer; what = what; start = d.start; end = d.end }

idle_what : (d : Duty) (what : What) → sets_one (doing d what) ≡ false → Idle what
idle_what d (Grant target role) e = clash refl e
idle_what d (Revoke target role) e = clash refl e
idle_what d (Use action object) e =
    record {
      grants_nothing = λ user set. refl;
      revokes_nothing = λ user set. refl;
      undoes_nothing = λ other. refl;
      against_nothing = λ doer ask. refl;
    }

pub idle : (d : Duty) → sets_one d ≡ false → Idle d.what
idle d e = idle_what d d.what e

-- ---- the tests

any_kept :
    {A : Type 0} (p q : A → Bool) → ((x : A) → q x ≡ false → p x ≡ false) → (l : List A)
    → any p (keep q l) ≡ any p l
any_kept p q f [] = refl
any_kept p q f (x ∷ l) =
    by_test
    (q x)
    (λ t. rw t (ap (λ (b : Bool). p x || b) (any_kept p q f l)))
    (λ e. rw (e, f x e) (any_kept p q f l))

pub mends_kept :
    (x d : Duty) (pool : List Duty) → any (mends x d) (keep sets_one pool) ≡ any (mends x d) pool
mends_kept x d = any_kept (mends x d) sets_one one
  where
    one : (g : Duty) → sets_one g ≡ false → mends x d g ≡ false
    one g e =
        rw ((idle g e).undoes_nothing x.what) (and_false (wholly_before x g && wholly_before g d))

pub wrong_kept :
    (pool : List Duty) (d : Duty) (ask : Ask) (l : List Duty)
    → any (makes_wrong pool d (Some ask)) (keep sets_one l) ≡ any (makes_wrong pool d (Some ask)) l
wrong_kept pool d ask = any_kept (makes_wrong pool d (Some ask)) sets_one one
  where
    one : (g : Duty) → sets_one g ≡ false → makes_wrong pool d (Some ask) g ≡ false
    one g e =
        let free = (idle g e).against_nothing d.doer ask in
        rw (free, and_false (not (eqb g.serial.0 d.serial.0)))
