-- What the board says after an accepted call: document 01, section Answer numbers. Each names everything
-- that a board says, so that one sees what changed and that nothing else did. The clock becomes the call's
-- clock.
use Rattle.std.specs.Prelude.{Bool, not, List, [], ◌∷◌, ◌++◌, ℕ, ◌+◌, eqb, length}
use Rattle.std.specs.Prelude.{Option, None, Some}
use Rattle.orders.specs.Lists.{keep, find}
use Rattle.board.specs.declared.Duty.{Duty}
use Rattle.board.specs.declared.What.{What}
use Rattle.board.specs.Permitted.{changed}
use Rattle.board.specs.View.{View}

-- ---- admit

-- a duty that is asked for: it has no serial yet
pub record NewDuty : Type 0 where
  pub doer : ℕ
  pub what : What
  pub start : ℕ
  pub end : ℕ

abbrev pub with_serial : ℕ → NewDuty → Duty
with_serial serial d =
    record {
      serial = record { 0 = serial };
      doer = d.doer;
      what = d.what;
      start = d.start;
      end = d.end;
    }

-- these duties with rising serials, from this one on
abbrev pub numbered : ℕ → List NewDuty → List Duty
numbered serial [] = []
numbered serial (d ∷ l) = with_serial serial d ∷ numbered (serial + 1) l

-- admit adds the duties with the next serials, and the next serial rises by one for each
abbrev pub admitted : View → ℕ → List NewDuty → View
admitted v clock new =
    record {
      users = v.users;
      roles = v.roles;
      clock = clock;
      next = v.next + length new;
      holdings = v.holdings;
      permissions = v.permissions;
      rules = v.rules;
      duties = v.duties ++ numbered v.next new;
    }

-- ---- act

-- act makes its change and fulfils no duty
abbrev pub acted : View → ℕ → What → View
acted v clock what =
    record {
      users = v.users;
      roles = v.roles;
      clock = clock;
      next = v.next;
      holdings = changed v.holdings what;
      permissions = v.permissions;
      rules = v.rules;
      duties = v.duties;
    }

-- ---- do and withdraw

-- the duty has this serial
abbrev pub named : ℕ → Duty → Bool
named serial d = eqb serial d.serial.0

-- the duties but the one with this serial
abbrev pub without_serial : ℕ → List Duty → List Duty
without_serial serial l = keep (λ d. not (named serial d)) l

-- withdraw only removes the duty
abbrev pub withdrawn : View → ℕ → ℕ → View
withdrawn v clock serial =
    record {
      users = v.users;
      roles = v.roles;
      clock = clock;
      next = v.next;
      holdings = v.holdings;
      permissions = v.permissions;
      rules = v.rules;
      duties = without_serial serial v.duties;
    }

-- the sets of roles once this duty, if there is one, was done
abbrev pub changed_by : List ℕ → Option Duty → List ℕ
changed_by sets None = sets
changed_by sets (Some d) = changed sets d.what

-- do makes the change of the duty with this serial and removes it
abbrev pub did : View → ℕ → ℕ → View
did v clock serial =
    record {
      users = v.users;
      roles = v.roles;
      clock = clock;
      next = v.next;
      holdings = changed_by v.holdings (find (named serial) v.duties);
      permissions = v.permissions;
      rules = v.rules;
      duties = without_serial serial v.duties;
    }
