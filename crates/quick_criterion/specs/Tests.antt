-- The quick test of one duty, for all its needs at once: part (a), can it be met; part (b), does some duty
-- make a need of it wrong. That it is the criterion of crate orders is proved in proofs/. `pool` is the list
-- of open duties, `ask` what is asked for d.
use Rattle.std.specs.Prelude.{Bool, false, not, ◌&&◌, ◌||◌, cond, List, [], ◌∷◌, ℕ, eqb, ltb, get_or}
use Rattle.std.specs.Prelude.{Option}
use Rattle.orders.specs.Lists.{any}
use Rattle.roles.specs.Roles.{width, in_set, with_role, without_role}
use Rattle.permitted.specs.Meets.{meets_sets}
use Rattle.asks.specs.declared.Ask.{Ask}
use Rattle.asks.specs.Asks.{asked_that}
use Rattle.board.specs.declared.Duty.{Duty}
use Rattle.board.specs.declared.What.{What}
use Rattle.board.specs.declared.What.TheVariants.{Grant, Revoke, Use}
use Rattle.board.specs.Windows.{wholly_before}

-- ---- (a): what the duties wholly before d can give a user, and take

-- the user's set with the role that this grants, and without the role that it revokes
abbrev pub granted : ℕ → What → ℕ → ℕ
granted user (Grant target role) set = cond (eqb target user) (with_role set role) set
granted user (Revoke target role) set = set
granted user (Use action object) set = set

abbrev pub revoked : ℕ → What → ℕ → ℕ
revoked user (Grant target role) set = set
revoked user (Revoke target role) set = cond (eqb target user) (without_role set role) set
revoked user (Use action object) set = set

-- the set with every role that a duty wholly before d grants, and without every role that one revokes
unfoldable pub most : Duty → ℕ → ℕ → List Duty → ℕ
most d user set [] = set
most d user set (g ∷ l) = most d user (cond (wholly_before g d) (granted user g.what set) set) l

unfoldable pub least : Duty → ℕ → ℕ → List Duty → ℕ
least d user set [] = set
least d user set (g ∷ l) = least d user (cond (wholly_before g d) (revoked user g.what set) set) l

-- something is asked, and each need of d is right now or is set right by some duty wholly before d
abbrev pub can_be_met : List ℕ → List Duty → Duty → Option Ask → Bool
can_be_met sets pool d =
    asked_that
    (λ ask.
    in_set (most d d.doer (get_or sets d.doer 0) pool) ask.actor
    && (meets_sets (most d ask.target (get_or sets ask.target 0) pool) ask.wanted 0
    && meets_sets (least d ask.target (get_or sets ask.target 0) pool) 0 ask.barred))

-- ---- (b): a duty that makes a need of d wrong

-- it is asked that the user holds the role; that the user does not hold it
abbrev pub needs_held : ℕ → Ask → ℕ → ℕ → Bool
needs_held doer ask user role =
    (eqb user doer && eqb ask.actor role) || (eqb user ask.target && in_set ask.wanted role)

abbrev pub needs_free : Ask → ℕ → ℕ → Bool
needs_free ask user role = eqb user ask.target && in_set ask.barred role

-- the opposite of what this sets is asked; a role that no set has room for is never set
abbrev pub needs_opposite : ℕ → Ask → What → Bool
needs_opposite doer ask (Grant target role) = ltb role width && needs_free ask target role
needs_opposite doer ask (Revoke target role) = ltb role width && needs_held doer ask target role
needs_opposite doer ask (Use action object) = false

-- the first sets just that holding to the opposite of what the second sets it to
abbrev pub undoes : What → What → Bool
undoes (Grant target role) (Revoke user q) = ltb role width && (eqb target user && eqb role q)
undoes (Revoke target role) (Grant user q) = ltb role width && (eqb target user && eqb role q)
undoes (Grant target role) (Grant user q) = false
undoes (Grant target role) (Use action object) = false
undoes (Revoke target role) (Revoke user q) = false
undoes (Revoke target role) (Use action object) = false
undoes (Use action object) what = false

-- x is another duty that sets a need of d wrong, and d is not wholly before x
abbrev pub spoils : Duty → Option Ask → Duty → Bool
spoils d asked x =
    not (eqb x.serial.0 d.serial.0)
    && (asked_that (λ ask. needs_opposite d.doer ask x.what) asked && not (wholly_before d x))

-- g lies between x and d and sets right what x sets wrong
abbrev pub mends : Duty → Duty → Duty → Bool
mends x d g = (wholly_before x g && wholly_before g d) && undoes g.what x.what

-- x spoils a need of d, and no duty of the pool mends it
abbrev pub makes_wrong : List Duty → Duty → Option Ask → Duty → Bool
makes_wrong pool d ask x = spoils d ask x && not (any (mends x d) pool)

-- d cannot be met, or some duty makes a need of it wrong
abbrev pub in_trouble : List ℕ → List Duty → Duty → Option Ask → Bool
in_trouble sets pool d ask = not (can_be_met sets pool d ask) || any (makes_wrong pool d ask) pool
