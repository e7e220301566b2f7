-- One duty d and one that sets: whether it makes a need of d wrong, and what it can give or take before d, in
-- the numbers that are compared.
use mathlib.Core.Path.{◌≡◌, refl, sym, ◌∙◌}
use mathlib.Core.Bool.{Bool, true, false, not, ◌&&◌, ◌||◌, cond}
use mathlib.Core.List.{List}
use Rattle.std.specs.Prelude.{Some}
use Prim.Native.Nat.{ℕ, ◌≤◌, ◌<◌}
use lib.Bits.{bit_or, bit_xor}
use lib.Dec.{eqb, ltb}
use borrow.Author.Tests.{lt-ltb, le-ltb, eq-eqb, ne_eqb}
use Rattle.orders.proofs.Tests.{clash, and_yes, or_false}
use Rattle.roles.specs.Roles.{with_role}
use Rattle.asks.specs.declared.Ask.{Ask}
use Rattle.board.specs.declared.Duty.{Duty}
use Rattle.board.specs.Windows.{wholly_before}
use Rattle.troubles.specs.declared.pairs.Reach.{Reach}
use Rattle.troubles.specs.declared.setting.Setter.{Setter}
use Rattle.troubles.specs.Reaching.{reach_with}
use Rattle.troubles.specs.Setting.{user_of, grants_of, revokes_of, setter_of, is_against}
use Rattle.quick_criterion.specs.Mends.{last_minute, first_mend}
use Rattle.quick_criterion.specs.Tests.{makes_wrong}
use Rattle.troubles.proofs.Bits.{granted_is, revoked_is, needs_opposite_is}
use Rattle.quick_criterion.proofs.Mending.{and_false, mended_by}

-- ---- whether x makes a need of d wrong

-- the user is the doer or the target: something is asked of it
abbrev pub concerned : ℕ → ℕ → ℕ → Bool
concerned doer target user = eqb user doer || eqb user target

-- x is another duty and sets the opposite of what is asked
abbrev pub against : Setter → Duty → Ask → ℕ → Bool
against x d ask actor =
    is_against d.doer actor ask x.user x.grants x.revokes
    && not (eqb x.serial.0 d.serial.0)

-- two tests, and a third and a fourth
regroup : (a b c d : Bool) → (a && (b && c)) && d ≡ ((b && a) && c) && d
regroup true true c d = refl
regroup true false c d = refl
regroup false true c d = refl
regroup false false c d = refl

module _
    {x : Setter} {mend actor : ℕ} (d : Duty) (ask : Ask) (small : d.start ≤ last_minute)
    (known : actor ≡ with_role 0 ask.actor)
    (y : Duty) (l : List Duty) (is_x : x ≡ setter_of y) (is_mend : mend ≡ first_mend y last_minute l)
  where
    in_numbers_lem :
        makes_wrong l d (Some ask) y
        ≡ (against x d ask actor && not (ltb d.end x.start)) && not (ltb mend d.start)
    in_numbers_lem =
        let w = y.what in
        rw
        (needs_opposite_is d.doer ask w, mended_by y d l small, is_x, is_mend, known)
        (regroup
        (not (eqb y.serial.0 d.serial.0))
        (is_against d.doer (with_role 0 ask.actor) ask (user_of w) (grants_of w) (revokes_of w))
        (not (wholly_before d y))
        (not (ltb (first_mend y last_minute l) d.start)))

    pub wholly_later : d.end < x.start → false ≡ makes_wrong l d (Some ask) y
    wholly_later h = rw (in_numbers_lem, lt-ltb d.end x.start h, and_false (against x d ask actor))

    pub mended : mend < d.start → false ≡ makes_wrong l d (Some ask) y
    mended h =
        rw
        (in_numbers_lem, lt-ltb mend d.start h)
        (sym (and_false (against x d ask actor && not (ltb d.end x.start))))

    abbrev set_against : Bool
    set_against = is_against d.doer actor ask x.user x.grants x.revokes

    pub itself : x.serial.0 ≡ d.serial.0 → false ≡ makes_wrong l d (Some ask) y
    itself e =
        rw (in_numbers_lem, eq-eqb x.serial.0 d.serial.0 e, and_false set_against)

    pub left_wrong :
        x.start ≤ d.end → d.start ≤ mend → (x.serial.0 ≡ d.serial.0 → ⊥)
        → set_against ≡ makes_wrong l d (Some ask) y
    left_wrong h k n =
        rw (
          in_numbers_lem,
          le-ltb d.end x.start h,
          le-ltb mend d.start k,
          ne_eqb x.serial.0 d.serial.0 n,
        )
        (sym (and_yes ((set_against && true) && true) ∙ and_yes (set_against && true) ∙ and_yes set_against))

-- a duty that sets another user than those of whom something is asked makes nothing wrong
pub apart_right :
    (d : Duty) (ask : Ask) (y : Duty) (l : List Duty)
    → concerned d.doer ask.target (user_of y.what) ≡ false → makes_wrong l d (Some ask) y ≡ false
apart_right d ask y l e =
    let user = user_of y.what in
    let (own, theirs) = or_false (eqb user d.doer) (eqb user ask.target) e in
    rw (
      needs_opposite_is d.doer ask y.what,
      own,
      theirs,
      and_false (not (eqb y.serial.0 d.serial.0)),
    )

-- ---- what x can give or take before d

-- the three sets once x is done
abbrev with_sets : Setter → Duty → Ask → Reach → Reach
with_sets x d ask reach =
    let own = eqb x.user d.doer in
    let theirs = eqb x.user ask.target in
    record {
      own = cond own (bit_or reach.own x.grants) reach.own;
      most = cond theirs (bit_or reach.most x.grants) reach.most;
      least = cond theirs (bit_xor (bit_or reach.least x.revokes) x.revokes) reach.least;
    }

-- one of two, part by part
by_parts :
    (b : Bool) (r s : Reach)
    → record {
      own = cond b r.own s.own;
      most = cond b r.most s.most;
      least = cond b r.least s.least;
    }
    ≡ cond b r s
by_parts true r s = refl
by_parts false r s = refl

-- the first of two tests, where the second fails
or_first : (a b : Bool) → a || b ≡ true → b ≡ false → a ≡ true
or_first true b e n = refl
or_first false b e n = clash e n

alike : (b : Bool) (r : Reach) → r ≡ cond b r r
alike true r = refl
alike false r = refl

module _ {x : Setter} (d : Duty) (ask : Ask) (reach : Reach) (y : Duty) (is_x : x ≡ setter_of y) where
  in_sets : reach_with d ask reach y ≡ cond (ltb x.end d.start) (with_sets x d ask reach) reach
  in_sets =
      let own = granted_is d.doer y.what reach.own in
      let most = granted_is ask.target y.what reach.most in
      let least = revoked_is ask.target y.what reach.least in
      rw (own, most, least, is_x) (by_parts (wholly_before y d) (with_sets (setter_of y) d ask reach) reach)

  pub not_reached : concerned d.doer ask.target x.user ≡ false → reach ≡ reach_with d ask reach y
  not_reached e =
      let (own, theirs) = or_false (eqb x.user d.doer) (eqb x.user ask.target) e in
      rw (in_sets, own, theirs) (alike (ltb x.end d.start) reach)

  pub not_before : d.start ≤ x.end → reach ≡ reach_with d ask reach y
  not_before h = rw (in_sets, le-ltb x.end d.start h)

  module _ (h : x.end < d.start) where
    reached : with_sets x d ask reach ≡ reach_with d ask reach y
    reached = rw (in_sets, lt-ltb x.end d.start h)

    abbrev own : ℕ
    own = bit_or reach.own x.grants

    abbrev most : ℕ
    most = bit_or reach.most x.grants

    abbrev least : ℕ
    least = bit_xor (bit_or reach.least x.revokes) x.revokes

    -- x sets the doer alone, the target alone, or one who is both
    pub own_reached :
        concerned d.doer ask.target x.user ≡ true → (x.user ≡ ask.target → ⊥)
        → record { own = own; most = reach.most; least = reach.least } ≡ reach_with d ask reach y
    own_reached e n =
        let other = ne_eqb x.user ask.target n in
        let doer = or_first (eqb x.user d.doer) (eqb x.user ask.target) e other in
        rw (doer, other) at reached

    pub target_reached :
        x.user ≡ ask.target → (x.user ≡ d.doer → ⊥)
        → record { own = reach.own; most = most; least = least } ≡ reach_with d ask reach y
    target_reached t n =
        rw (ne_eqb x.user d.doer n, eq-eqb x.user ask.target t) at reached

    pub both_reached :
        x.user ≡ ask.target → x.user ≡ d.doer
        → record { own = own; most = most; least = least } ≡ reach_with d ask reach y
    both_reached t e = rw (eq-eqb x.user d.doer e, eq-eqb x.user ask.target t) at reached
