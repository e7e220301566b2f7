-- What is to be done, told by numbers: an action, a first and a second, as a file's record and a request
-- have them.
use Rattle.std.specs.Prelude.{Bool, ◌||◌, cond, ℕ, eqb}
use Rattle.board.specs.declared.What.{What}
use Rattle.board.specs.declared.What.TheVariants.{Grant, Revoke, Use}

-- action 0 is a grant and 1 a revoke, of the role `second` for the target `first`; else a use of the object
-- `first`
abbrev pub what_of : ℕ → ℕ → ℕ → What
what_of action first second =
    cond (eqb action 0) (Grant first second) (cond (eqb action 1) (Revoke first second) (Use action first))

-- and back: the action, the first and the second that tell of it
abbrev pub action_of : What → ℕ
action_of (Grant target role) = 0
action_of (Revoke target role) = 1
action_of (Use action object) = action

abbrev pub first_of : What → ℕ
first_of (Grant target role) = target
first_of (Revoke target role) = target
first_of (Use action object) = object

abbrev pub second_of : What → ℕ
second_of (Grant target role) = role
second_of (Revoke target role) = role
second_of (Use action object) = 0

-- for a use, second is 0
abbrev pub second_fits : ℕ → ℕ → Bool
second_fits action second = (eqb action 0 || eqb action 1) || eqb second 0
