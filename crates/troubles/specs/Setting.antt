-- The duties that set a holding, in numbers: whom they set, the role granted or revoked as a set, the window.
use Rattle.std.specs.Prelude.{Bool, true, false, not, ◌&&◌, ◌||◌, ℕ, eqb}
use Rattle.std.specs.Int.Bits.{bit_and, bit_or}
use Rattle.roles.specs.Roles.{with_role}
use Rattle.asks.specs.declared.Ask.{Ask}
use Rattle.board.specs.declared.Duty.{Duty}
use Rattle.board.specs.declared.What.{What}
use Rattle.board.specs.declared.What.TheVariants.{Grant, Revoke, Use}
use Rattle.troubles.specs.declared.setting.Setter.{Setter}

-- it is a grant or a revoke
abbrev pub sets_one : Duty → Bool
sets_one d = is_set d.what
  where
    is_set : What → Bool
    is_set (Grant target role) = true
    is_set (Revoke target role) = true
    is_set (Use action object) = false

-- what this sets, in numbers
abbrev pub user_of : What → ℕ
user_of (Grant target role) = target
user_of (Revoke target role) = target
user_of (Use action object) = 0

abbrev pub grants_of : What → ℕ
grants_of (Grant target role) = with_role 0 role
grants_of (Revoke target role) = 0
grants_of (Use action object) = 0

abbrev pub revokes_of : What → ℕ
revokes_of (Grant target role) = 0
revokes_of (Revoke target role) = with_role 0 role
revokes_of (Use action object) = 0

abbrev pub setter_of : Duty → Setter
setter_of d =
    record {
      serial = d.serial;
      user = user_of d.what;
      spare = 0;
      grants = grants_of d.what;
      revokes = revokes_of d.what;
      start = d.start;
      end = d.end;
    }

-- ---- what is asked, against what is set

-- the set has a role
abbrev pub has_role : ℕ → Bool
has_role set = not (eqb set 0)

-- the opposite of what is set is asked; `actor` is the role that the doer is to hold, as a set
abbrev pub is_against : ℕ → ℕ → Ask → ℕ → ℕ → ℕ → Bool
is_against doer actor ask user grants revokes =
    (eqb user doer && has_role (bit_and revokes actor))
    || (eqb user ask.target
    && has_role (bit_or (bit_and revokes ask.wanted) (bit_and grants ask.barred)))
