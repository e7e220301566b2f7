-- Whole sets at once. A set joined with the set of one role is the set with that role, and less that set it
-- is the set without the role; the set of one role has something in common with a set just where that set has
-- the role. What a set has in common with another is the whole of the other just where the set has every role
-- of the other, and nothing just where it has none of them.
use mathlib.Core.Path.{◌≡◌, refl, sym, ap, ◌∙◌}
use mathlib.Core.Logic.{◌↔◌}
use mathlib.Core.Bool.{Bool, true, false, not, ◌&&◌, cond}
use Prim.Native.Nat.{ℕ, zero, suc, ◌+◌, ◌-◌, ◌*◌, ◌/◌, ◌^◌, ◌<◌, min}
use native.Mathlib.Nat.{zero-div, pow-suc}
use native.Mathlib.Omega.{arith}
use lib.Bits.{bit_and, bit_or, bit_xor, or_zero_l, or_zero_r, xor_zero_r, and_zero_l, and_comm, and_high}
use lib.Bits.{and_le_r}
use lib.Dec.{eqb, ltb}
use lib.Pow.{pow-add, pow_pos, shr-shr}
use borrow.Author.Tests.{eqb-true, eqb-false, eq-eqb, ne_eqb, ltb-true}
use Rattle.roles.specs.Roles.{width, in_set, with_role, without_role}
use Rattle.roles.proofs.Laws.{bit, and_bit, with_same, with_other}

-- ---- one role more, and one less

module _ (set one : ℕ) where
  join_if : (b : Bool) → bit_or set (cond b (bit_or 0 one) 0) ≡ cond b (bit_or set one) set
  join_if true = rw (or_zero_l one)
  join_if false = or_zero_r set

  less_if :
      (b : Bool)
      → bit_xor (bit_or set (cond b (bit_or 0 one) 0)) (cond b (bit_or 0 one) 0)
      ≡ cond b (bit_xor (bit_or set one) one) set
  less_if true = rw (or_zero_l one)
  less_if false = rw (or_zero_r set) (xor_zero_r set)

pub join_one : (set role : ℕ) → bit_or set (with_role 0 role) ≡ with_role set role
unfolding with_role
join_one set role = join_if set (1 * 2 ^ role) (ltb role width)

pub less_one :
    (set role : ℕ) → bit_xor (bit_or set (with_role 0 role)) (with_role 0 role) ≡ without_role set role
unfolding with_role without_role
less_one set role = less_if set (1 * 2 ^ role) (ltb role width)

-- ---- in common

-- what a set has in common with one role
one_in_common : (set role : ℕ) → bit_and set (1 * 2 ^ role) ≡ bit set role * 2 ^ role
one_in_common set role =
    let e : 1 * 2 ^ role ≡ 2 ^ (1 + role) - 2 ^ role = omega (arith, pow-add 2 1 role) in
    rw e (and_high set 1 role)

bit_there : (b p : ℕ) → b < 2 → 0 < p → eqb (b * p) 0 ≡ not (eqb b 1)
bit_there zero p h k = eq-eqb (0 * p) 0 (omega arith)
bit_there (suc zero) p h k = ne_eqb (1 * p) 0 (λ e. omega arith)
bit_there (suc (suc b)) p h k = absurd (omega arith)

common_if :
    (set role : ℕ) (b : Bool)
    → eqb (bit_and (cond b (bit_or 0 (1 * 2 ^ role)) 0) set) 0 ≡ not (b && in_set set role)
common_if set role true =
    rw
    (or_zero_l (1 * 2 ^ role), and_comm (1 * 2 ^ role) set, one_in_common set role)
    (bit_there (bit set role) (2 ^ role) (omega arith) (pow_pos role))
common_if set role false = ap (λ (k : ℕ). eqb k 0) (and_zero_l set)

pub common_one :
    (set role : ℕ) → eqb (bit_and (with_role 0 role) set) 0 ≡ not (ltb role width && in_set set role)
unfolding with_role
common_one set role = common_if set role (ltb role width)

-- the set of a role has just that role
only_one : (a b : ℕ) → a < width → in_set (with_role 0 b) a ≡ eqb b a
only_one a b h = go (eqb b a) refl
  where
    go : (t : Bool) → eqb b a ≡ t → in_set (with_role 0 b) a ≡ eqb b a
    go true e = let same = eqb-true b a e in rw (e, same) (with_same 0 a h)
    go false e =
        with_other 0 b a (λ q. eqb-false b a e (sym q))
        ∙ ne_eqb (bit 0 a) 1 (λ q. omega (arith, q, zero-div (2 ^ a)))
        ∙ sym e

-- two sets of one role have something in common where the role is the same
pub common_ones :
    (a b : ℕ) → eqb (bit_and (with_role 0 a) (with_role 0 b)) 0 ≡ not (ltb a width && eqb b a)
common_ones a b = common_one (with_role 0 b) a ∙ ap not (go (ltb a width) refl)
  where
    go : (t : Bool) → ltb a width ≡ t → t && in_set (with_role 0 b) a ≡ t && eqb b a
    go true e = only_one a b (ltb-true a width e)
    go false e = refl

-- ---- all of a set, and none of it

-- two sets with the same bits are the same
same_bits : (n a b : ℕ) → a < 2 ^ n → b < 2 ^ n → ((q : ℕ) → q < n → bit a q ≡ bit b q) → a ≡ b
same_bits zero a b h k same = omega arith
same_bits (suc n) a b h k same =
    let high = same_bits n (a / 2) (b / 2) (omega (arith, pow-suc 2 n)) (omega (arith, pow-suc 2 n)) rest in
    omega (arith, same 0 (omega arith), high)
  where
    rest : (q : ℕ) → q < n → bit (a / 2) q ≡ bit (b / 2) q
    rest q l = rw (shr-shr a 1 q, shr-shr b 1 q) (same (1 + q) (omega arith))

-- of a bit x of the one and y of the other: x is there where y is, and x is not there where y is
all_there : (x y : ℕ) → y < 2 → (eqb y 1 ≡ true → eqb x 1 ≡ true) → min x y ≡ y
all_there x zero k f = omega arith
all_there x (suc y) k f = let e = eqb-true x 1 (f (eq-eqb (suc y) 1 (omega arith))) in omega arith

none_there : (x y : ℕ) → x < 2 → y < 2 → (eqb y 1 ≡ true → eqb x 1 ≡ false) → min x y ≡ 0
none_there x zero h k f = omega arith
none_there x (suc y) h k f = let e = eqb-false x 1 (f (eq-eqb (suc y) 1 (omega arith))) in omega arith

module _ (n set other : ℕ) (fits : other < 2 ^ n) where
  -- what the two have in common is a set whose bits are known
  common_is :
      (c : ℕ) → c < 2 ^ n → ((q : ℕ) → q < n → min (bit set q) (bit other q) ≡ bit c q)
      → eqb (bit_and set other) c ≡ true
  common_is c h f =
      let below : bit_and set other < 2 ^ n = omega (arith, and_le_r set other) in
      eq-eqb _ _ (same_bits n (bit_and set other) c below h (λ q l. and_bit set other q ∙ f q l))

  common_bit : (c q : ℕ) → eqb (bit_and set other) c ≡ true → min (bit set q) (bit other q) ≡ bit c q
  common_bit c q e =
      sym (and_bit set other q) ∙ ap (λ (x : ℕ). bit x q) (eqb-true (bit_and set other) c e)

  pub has_all :
      eqb (bit_and set other) other ≡ true
      ↔ ((q : ℕ) → q < n → in_set other q ≡ true → in_set set q ≡ true)
  has_all = (
    λ e q h m. held q (eqb-true (bit other q) 1 m) (common_bit other q e),
    λ f. common_is other fits (λ q l. everything q (f q l)),
  )
    where
      held : (q : ℕ) → bit other q ≡ 1 → min (bit set q) (bit other q) ≡ bit other q → in_set set q ≡ true
      held q b c = eq-eqb (bit set q) 1 (omega arith)

      everything :
          (q : ℕ) → (in_set other q ≡ true → in_set set q ≡ true) → min (bit set q) (bit other q) ≡ bit other q
      everything q f = all_there (bit set q) (bit other q) (omega arith) f

  pub has_none :
      eqb (bit_and set other) 0 ≡ true
      ↔ ((q : ℕ) → q < n → in_set other q ≡ true → in_set set q ≡ false)
  has_none = (
    λ e q h m. missing q (eqb-true (bit other q) 1 m) (common_bit 0 q e),
    λ f. common_is 0 (omega arith) (λ q l. nothing q (f q l)),
  )
    where
      missing : (q : ℕ) → bit other q ≡ 1 → min (bit set q) (bit other q) ≡ bit 0 q → in_set set q ≡ false
      missing q b c = ne_eqb (bit set q) 1 (λ s. omega (arith, zero-div (2 ^ q)))

      nothing :
          (q : ℕ) → (in_set other q ≡ true → in_set set q ≡ false) → min (bit set q) (bit other q) ≡ bit 0 q
      nothing q f =
          none_there (bit set q) (bit other q) (omega arith) (omega arith) f ∙ omega (arith, zero-div (2 ^ q))
