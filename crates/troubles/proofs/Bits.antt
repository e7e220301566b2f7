-- What a duty sets, as sets of roles: the tests and steps over roles (specs/Tests) are those over whole sets.
use mathlib.Core.Path.{◌≡◌, refl, sym, ap, ◌∙◌}
use mathlib.Core.Bool.{Bool, true, false, not, ◌&&◌, ◌||◌, cond}
use Prim.Native.Nat.{ℕ}
use lib.Bits.{bit_and, bit_or, bit_xor, or_zero_r, or_zero_l, xor_zero_r, and_zero_r}
use lib.Dec.{eqb, ltb}
use borrow.Author.Tests.{eqb-true, eq-eqb}
use Rattle.orders.proofs.Tests.{same_test}
use Rattle.roles.specs.Roles.{width, in_set, with_role}
use Rattle.roles.proofs.Whole.{join_one, less_one, common_one, common_ones}
use Rattle.asks.specs.declared.Ask.{Ask}
use Rattle.board.specs.declared.What.{What}
use Rattle.board.specs.declared.What.TheVariants.{Grant, Revoke, Use}
use Rattle.troubles.specs.Setting.{user_of, grants_of, revokes_of, has_role, is_against}
use Rattle.quick_criterion.specs.Tests.{granted, revoked, needs_opposite, undoes}
use Rattle.quick_criterion.proofs.Mending.{and_false}

-- ---- one role more, and one less

cond_same : (b : Bool) (x : ℕ) {y : ℕ} → y ≡ x → x ≡ cond b y x
cond_same true x e = sym e
cond_same false x e = refl

pub granted_is :
    (user : ℕ) (what : What) (set : ℕ)
    → granted user what set ≡ cond (eqb (user_of what) user) (bit_or set (grants_of what)) set
granted_is user (Grant target role) set = rw (join_one set role)
granted_is user (Revoke target role) set = cond_same (eqb target user) set (or_zero_r set)
granted_is user (Use action object) set = cond_same (eqb 0 user) set (or_zero_r set)

pub revoked_is :
    (user : ℕ) (what : What) (set : ℕ)
    → revoked user what set
    ≡ cond (eqb (user_of what) user) (bit_xor (bit_or set (revokes_of what)) (revokes_of what)) set
revoked_is user (Grant target role) set =
    cond_same (eqb target user) set (xor_zero_r (bit_or set 0) ∙ or_zero_r set)
revoked_is user (Revoke target role) set = rw (less_one set role)
revoked_is user (Use action object) set =
    cond_same (eqb 0 user) set (xor_zero_r (bit_or set 0) ∙ or_zero_r set)

-- ---- in common

not_not : (b : Bool) → not (not b) ≡ b
not_not true = refl
not_not false = refl

one_with : (role set : ℕ) → has_role (bit_and (with_role 0 role) set) ≡ ltb role width && in_set set role
one_with role set = ap not (common_one set role) ∙ not_not (ltb role width && in_set set role)

one_with_one : (a b : ℕ) → has_role (bit_and (with_role 0 a) (with_role 0 b)) ≡ ltb a width && eqb b a
one_with_one a b = ap not (common_ones a b) ∙ not_not (ltb a width && eqb b a)

-- ---- what is asked

within : (a b c : Bool) → a && (b && c) ≡ b && (a && c)
within true b c = refl
within false b c = sym (and_false b)

within_both : (a b c d e : Bool) → a && ((b && c) || (d && e)) ≡ (b && (a && c)) || (d && (a && e))
within_both true b c d e = refl
within_both false b c d e = rw (and_false b, and_false d)

pub needs_opposite_is :
    (doer : ℕ) (ask : Ask) (what : What)
    → needs_opposite doer ask what
    ≡ is_against doer (with_role 0 ask.actor) ask (user_of what) (grants_of what) (revokes_of what)
needs_opposite_is doer ask (Grant target role) =
    let barred = ask.barred in
    rw
    (and_false (eqb target doer), or_zero_l (bit_and (with_role 0 role) barred), one_with role barred)
    (within (ltb role width) (eqb target ask.target) (in_set barred role))
needs_opposite_is doer ask (Revoke target role) =
    let wanted = ask.wanted in
    rw
    (or_zero_r (bit_and (with_role 0 role) wanted), one_with role wanted, one_with_one role ask.actor)
    (within_both
    (ltb role width)
    (eqb target doer)
    (eqb ask.actor role)
    (eqb target ask.target)
    (in_set wanted role))
needs_opposite_is doer ask (Use action object) =
    rw (and_false (eqb 0 doer), and_false (eqb 0 ask.target))

-- ---- what is undone

-- just what is set to the first user is set to the opposite for the other
abbrev pub undone : ℕ → ℕ → ℕ → ℕ → ℕ → ℕ → Bool
undone user grants revokes other granted revoked =
    eqb user other && has_role (bit_or (bit_and grants revoked) (bit_and revokes granted))

eqb_swap : (a b : ℕ) → eqb a b ≡ eqb b a
eqb_swap a b =
    same_test
    (eqb a b)
    (eqb b a)
    (λ e. eq-eqb b a (sym (eqb-true a b e)))
    (λ e. eq-eqb a b (sym (eqb-true b a e)))

opposite_one :
    (role q user other : ℕ)
    → ltb role width && (eqb user other && eqb role q)
    ≡ eqb user other && has_role (bit_and (with_role 0 role) (with_role 0 q))
opposite_one role q user other =
    rw (one_with_one role q, eqb_swap q role) (within (ltb role width) (eqb user other) (eqb role q))

pub undoes_is :
    (what other : What)
    → undoes what other
    ≡ undone (user_of what) (grants_of what) (revokes_of what) (user_of other) (grants_of other) (revokes_of other)
undoes_is (Grant target role) (Revoke user q) =
    rw (or_zero_r (bit_and (with_role 0 role) (with_role 0 q))) (opposite_one role q target user)
undoes_is (Revoke target role) (Grant user q) =
    rw (or_zero_l (bit_and (with_role 0 role) (with_role 0 q))) (opposite_one role q target user)
undoes_is (Grant target role) (Grant user q) =
    rw (and_zero_r (with_role 0 role)) (sym (and_false (eqb target user)))
undoes_is (Grant target role) (Use action object) =
    rw (and_zero_r (with_role 0 role)) (sym (and_false (eqb target 0)))
undoes_is (Revoke target role) (Revoke user q) =
    rw (and_zero_r (with_role 0 role)) (sym (and_false (eqb target user)))
undoes_is (Revoke target role) (Use action object) =
    rw (and_zero_r (with_role 0 role)) (sym (and_false (eqb target 0)))
undoes_is (Use action object) other = sym (and_false (eqb 0 (user_of other)))
