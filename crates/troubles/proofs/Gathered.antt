-- The loop of `setters_of`: what those of the first i duties set that set a holding stands at the start of
-- the room, closed up.
use mathlib.Core.Path.{◌≡◌, refl, sym, ap, ◌∙◌}
use mathlib.Core.Bool.{Bool, true, false, cond}
use Rattle.std.specs.Prelude.{Option, None, Some}
use Rattle.orders.proofs.Tests.{clash}
use mathlib.Core.List.{List, [], ◌∷◌, map, map-append}
use Prim.Native.Nat.{ℕ, ◌+◌, ◌≤◌, ◌<◌}
use native.Mathlib.Numerals.{add-one}
use native.Mathlib.Omega.{arith}
use lib.ListN.{length, take, get_or, set, length-set}
use lib.Seq.{take-suc-set}
use Rattle.orders.specs.Lists.{keep}
use Rattle.pool.proofs.ClosedUp.{keep_one, keep_none}

-- what is there just where a test passes
abbrev is_there : {B : Type 0} → Option B → Bool
is_there None = false
is_there (Some x) = true

abbrev or_else : {B : Type 0} → B → Option B → B
or_else z None = z
or_else z (Some x) = x

pub there_is :
    {B : Type 0} (b : Bool) (s : B) {x : B} → Some x ≡ cond b (Some s) None → (b ≡ true) × (x ≡ s)
there_is true s {x = x} e = (refl, ap (or_else x) e)
there_is false s e = clash refl (ap is_there e)

pub there_is_none : {B : Type 0} (b : Bool) (s : B) → None ≡ cond b (Some s) None → b ≡ false
there_is_none true s e = clash (ap is_there e) refl
there_is_none false s e = refl

-- of the first i members of l those that pass stand in `out`, each as f has it, and they are `count`
pub record Gathered
    {A B : Type 0} (p : A → Bool) (f : A → B) (room : ℕ) (l : List A) (out : List B) (count i : ℕ) : Type 0
  where
    pub few : count ≤ i
    pub long : length out ≡ room
    pub are : take count out ≡ map f (keep p (take i l))

module _ {A B : Type 0} {p : A → Bool} {f : A → B} {room : ℕ} {l : List A} {out : List B} where
  pub starts : length out ≡ room → Gathered p f room l out 0 0
  starts e = record { few = omega arith; long = e; are = refl }

  module _ {count i : ℕ} (known : Gathered p f room l out count i) (d : A) (h : i < length l) where
    pub gathered :
        {x : B} → i < room → x ≡ f (get_or l i d) → p (get_or l i d) ≡ true
        → Gathered p f room l (set out count x) (count + 1) (i + 1)
    gathered {x} k e t =
        let fits : count < length out = omega arith in
        record {
          few = omega arith;
          long = length-set out count x ∙ known.long;
          are =
              rw
              (add-one count, take-suc-set out count x fits, known.are, keep_one p l i d h t, e)
              (sym (map-append f (keep p (take i l)) (get_or l i d ∷ [])));
        }

    pub passed_over : p (get_or l i d) ≡ false → Gathered p f room l out count (i + 1)
    passed_over e =
        record { few = omega arith; long = known.long; are = rw (keep_none p l i d h e) known.are }
