-- What a set of roles holds once a role was put in or taken out: that role (or not), and of the others just
-- those that it held before; and no role at or above a limit comes in. Bit by bit: of what two sets have in
-- common, a union, a difference, and of a number with one bit.
use mathlib.Core.Path.{◌≡◌, refl, ap, ◌∙◌}
use mathlib.Core.Bool.{Bool, true, false, cond}
use Prim.Native.Nat.{ℕ, zero, suc, ◌+◌, ◌-◌, ◌*◌, ◌/◌, ◌%◌, ◌^◌, ◌≤◌, ◌<◌, min, max}
use native.Mathlib.Nat.{div-eq_of_lt, pow-suc}
use native.Mathlib.Decide.{dec_lt}
use native.Mathlib.Omega.{arith}
use lib.Bits.{bit_and, bit_or, bit_xor, differ, and_shr, or_shr, xor_shr, and_step, or_step, xor_step}
use lib.Bits.{or_lt, xor_lt}
use lib.Dec.{eqb, ltb}
use lib.Pow.{pow-lt, pow_mono, pow-add, shl-shr, shl_exact}
use borrow.Author.Tests.{ne_eqb, lt-ltb}
use Rattle.roles.specs.Roles.{width, in_set, with_role, without_role}

-- bit i of a number
abbrev pub bit : ℕ → ℕ → ℕ
bit set i = set / 2 ^ i % 2

-- ---- every bit of what two sets have in common, of a union and of a difference

or_low : (a b : ℕ) → bit_or a b % 2 ≡ max (a % 2) (b % 2)
or_low a b = omega (arith, or_step a b)

differ_mod : (x y : ℕ) → x < 2 → y < 2 → differ x y ≡ (x + y) % 2
differ_mod zero y hx hy = omega arith
differ_mod (suc zero) zero hx hy = refl
differ_mod (suc zero) (suc zero) hx hy = refl
differ_mod (suc zero) (suc (suc y)) hx hy = absurd (omega arith)
differ_mod (suc (suc x)) y hx hy = absurd (omega arith)

xor_low : (a b : ℕ) → bit_xor a b % 2 ≡ (a % 2 + b % 2) % 2
xor_low a b = omega (arith, xor_step a b, differ_mod (a % 2) (b % 2) (omega arith) (omega arith))

pub and_bit : (a b i : ℕ) → bit (bit_and a b) i ≡ min (bit a i) (bit b i)
and_bit a b i = ap (λ (x : ℕ). x % 2) (and_shr a b i) ∙ omega (arith, and_step (a / 2 ^ i) (b / 2 ^ i))

or_bit : (a b i : ℕ) → bit (bit_or a b) i ≡ max (bit a i) (bit b i)
or_bit a b i = ap (λ (x : ℕ). x % 2) (or_shr a b i) ∙ or_low (a / 2 ^ i) (b / 2 ^ i)

xor_bit : (a b i : ℕ) → bit (bit_xor a b) i ≡ (bit a i + bit b i) % 2
xor_bit a b i = ap (λ (x : ℕ). x % 2) (xor_shr a b i) ∙ xor_low (a / 2 ^ i) (b / 2 ^ i)

-- ---- the number with one bit

one_same : (r : ℕ) → bit (1 * 2 ^ r) r ≡ 1
one_same r = ap (λ (x : ℕ). x % 2) (shl-shr 1 r)

one_above : (d i : ℕ) → bit (1 * 2 ^ (suc d + i)) i ≡ 0
one_above d i =
    let e : 1 * 2 ^ (suc d + i) ≡ 2 ^ suc d * 2 ^ i = omega (arith, pow-add 2 (suc d) i) in
    let f : bit (1 * 2 ^ (suc d + i)) i ≡ 2 ^ suc d % 2 =
    ap (λ (x : ℕ). x / 2 ^ i % 2) e ∙ ap (λ (x : ℕ). x % 2) (shl-shr (2 ^ suc d) i) in
    omega (arith, f, pow-suc 2 d)

one_other : (r i : ℕ) → (i ≡ r → ⊥) → bit (1 * 2 ^ r) i ≡ 0
one_other r i n = elim (dec_lt i r) [ yes h ↦ lower h | no h ↦ higher h ]
  where
    lower : i < r → bit (1 * 2 ^ r) i ≡ 0
    lower h = let e : r ≡ suc (r - suc i) + i = omega arith in rw e (one_above (r - suc i) i)

    higher : (i < r → ⊥) → bit (1 * 2 ^ r) i ≡ 0
    higher h =
        let l : r < i = omega arith in
        let z : 1 * 2 ^ r / 2 ^ i ≡ 0 = div-eq_of_lt (omega (arith, pow-lt l)) in omega (arith, z)

-- the code's shifted 1 is that number
pub shifted : (r : ℕ) → r < width → (1 * 2 ^ r) % 4294967296 ≡ 1 * 2 ^ r
shifted r h = shl_exact {a = 1} 1 r width (omega arith) (omega arith)

-- ---- what a set holds

-- no set has a role from its width on
pub beyond : (set role : ℕ) → set < 2 ^ width → width ≤ role → in_set set role ≡ false
beyond set role f k =
    let z : set / 2 ^ role ≡ 0 = div-eq_of_lt (omega (arith, pow_mono k)) in
    ne_eqb (bit set role) 1 (λ e. omega (arith, z))

-- the bits of a set with a role and of one without it, where the role has a place
with_bit_same : (set r : ℕ) → bit (bit_or set (1 * 2 ^ r)) r ≡ 1
with_bit_same set r = omega (arith, or_bit set (1 * 2 ^ r) r, one_same r)

with_bit_other : (set r q : ℕ) → (q ≡ r → ⊥) → bit (bit_or set (1 * 2 ^ r)) q ≡ bit set q
with_bit_other set r q n = omega (arith, or_bit set (1 * 2 ^ r) q, one_other r q n)

without_bit_same : (set r : ℕ) → bit (bit_xor (bit_or set (1 * 2 ^ r)) (1 * 2 ^ r)) r ≡ 0
without_bit_same set r =
    omega (arith, xor_bit (bit_or set (1 * 2 ^ r)) (1 * 2 ^ r) r, with_bit_same set r, one_same r)

without_bit_other :
    (set r q : ℕ) → (q ≡ r → ⊥) → bit (bit_xor (bit_or set (1 * 2 ^ r)) (1 * 2 ^ r)) q ≡ bit set q
without_bit_other set r q n =
    omega (arith, xor_bit (bit_or set (1 * 2 ^ r)) (1 * 2 ^ r) q, with_bit_other set r q n, one_other r q n)

-- one of two sets, by a test: what both hold alike
either : (b : Bool) (x y q : ℕ) → bit x q ≡ bit y q → in_set (cond b x y) q ≡ in_set y q
either true x y q e = ap (λ (k : ℕ). eqb k 1) e
either false x y q e = refl

pub with_same : (set role : ℕ) → role < width → in_set (with_role set role) role ≡ true
unfolding with_role
with_same set role h = rw (lt-ltb role width h, with_bit_same set role)

pub with_other : (set role q : ℕ) → (q ≡ role → ⊥) → in_set (with_role set role) q ≡ in_set set q
unfolding with_role
with_other set role q n =
    either (ltb role width) (bit_or set (1 * 2 ^ role)) set q (with_bit_other set role q n)

pub without_same : (set role : ℕ) → role < width → in_set (without_role set role) role ≡ false
unfolding without_role
without_same set role h = rw (lt-ltb role width h, without_bit_same set role)

pub without_other : (set role q : ℕ) → (q ≡ role → ⊥) → in_set (without_role set role) q ≡ in_set set q
unfolding without_role
without_other set role q n =
    either
    (ltb role width)
    (bit_xor (bit_or set (1 * 2 ^ role)) (1 * 2 ^ role))
    set
    q
    (without_bit_other set role q n)

-- ---- no role at or above a limit comes in

cond_below : (b : Bool) (x y limit : ℕ) → x < limit → y < limit → cond b x y < limit
cond_below true x y limit h k = h
cond_below false x y limit h k = k

module _ (roles set role : ℕ) (fits : set < 2 ^ roles) (h : role < roles) where
  one_below : 1 * 2 ^ role < 2 ^ roles
  one_below = omega (arith, pow-lt h)

  or_below : bit_or set (1 * 2 ^ role) < 2 ^ roles
  or_below = or_lt roles set (1 * 2 ^ role) fits one_below

  pub with_below : with_role set role < 2 ^ roles
  unfolding with_role
  with_below = cond_below (ltb role width) (bit_or set (1 * 2 ^ role)) set (2 ^ roles) or_below fits

  pub without_below : without_role set role < 2 ^ roles
  unfolding without_role
  without_below =
      cond_below
      (ltb role width)
      (bit_xor (bit_or set (1 * 2 ^ role)) (1 * 2 ^ role))
      set
      (2 ^ roles)
      (xor_lt roles (bit_or set (1 * 2 ^ role)) (1 * 2 ^ role) or_below one_below)
      fits
