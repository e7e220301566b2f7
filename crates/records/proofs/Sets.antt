-- A set of roles has no bit at or above the role count just if it is below two to that power: then nothing is
-- left of it once it is shifted by the count.
use mathlib.Core.Path.{◌≡◌, sym, ◌∙◌}
use mathlib.Core.Bool.{true}
use Prim.Native.Nat.{ℕ, ◌/◌, ◌^◌, ◌≤◌, ◌<◌}
use native.Mathlib.Decide.{dec_lt}
use native.Mathlib.Nat.{div-eq_of_lt, div-lt_iff_lt-mul, one-le-pow}
use native.Mathlib.Omega.{arith}
use lib.Dec.{eqb, ltb}
use lib.Pow.{pow_mono}
use borrow.Author.Tests.{eq-eqb, ne_eqb, lt-ltb, le-ltb}
use Rattle.roles.specs.Roles.{width}

pub shifted_out : (set roles : ℕ) → eqb (set / 2 ^ roles) 0 ≡ ltb set (2 ^ roles)
shifted_out set roles = elim (dec_lt set (2 ^ roles)) [ yes h ↦ inside h | no h ↦ outside h ]
  where
    inside : set < 2 ^ roles → eqb (set / 2 ^ roles) 0 ≡ ltb set (2 ^ roles)
    inside h = eq-eqb (set / 2 ^ roles) 0 (div-eq_of_lt h) ∙ sym (lt-ltb set (2 ^ roles) h)

    outside : (set < 2 ^ roles → ⊥) → eqb (set / 2 ^ roles) 0 ≡ ltb set (2 ^ roles)
    outside h = ne_eqb (set / 2 ^ roles) 0 some ∙ sym (le-ltb set (2 ^ roles) (omega arith))
      where
        some : set / 2 ^ roles ≡ 0 → ⊥
        some e =
            let both = div-lt_iff_lt-mul {x = set} {y = 1} (one-le-pow roles 2 (omega arith)) in
            h (omega (arith, both.0 (omega arith)))

-- a set is below two to each power from its width on
pub all_below : (set roles : ℕ) → set < 2 ^ width → width ≤ roles → ltb set (2 ^ roles) ≡ true
all_below set roles f h = lt-ltb set (2 ^ roles) (omega (arith, pow_mono h))
