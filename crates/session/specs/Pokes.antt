-- Poke: the board with one number set: docs/REPLAY.md. first names the number, second a place, extra is the
-- value, of which a number of two bytes takes the remainder. A place that the board has no room for changes
-- nothing.
use Rattle.std.specs.Prelude.{Bool, true, ◌&&◌, cond, List, ℕ, ◌%◌, eqb, ltb, get_or, set}
use Rattle.board.specs.declared.Board.{Board}
use Rattle.board.specs.declared.Counts.{Counts}
use Rattle.board.specs.declared.Duty.{Duty}
use Rattle.board.specs.declared.Permission.{Permission}
use Rattle.board.specs.declared.Rule.{Rule}
use Rattle.board.specs.Filler.{no_permission, no_rule, no_duty}
use Rattle.board.specs.Limits.{max_users, max_permissions, max_rules, max_duties}
use Rattle.session.specs.declared.Record.{Record}

-- the list with the entry at this place set, where it is chosen and the room has the place
abbrev pub put_at : {A : Type 0} → Bool → ℕ → List A → ℕ → A → List A
put_at chosen room l at new = cond (chosen && ltb at room) (set l at new) l

-- 0 to 4: how many there are of each
abbrev pub poked_counts : Counts → ℕ → ℕ → Counts
poked_counts n first value =
    record {
      users = cond (eqb first 0) (value % 65536) n.users;
      roles = cond (eqb first 1) (value % 65536) n.roles;
      permissions = cond (eqb first 2) (value % 65536) n.permissions;
      rules = cond (eqb first 3) (value % 65536) n.rules;
      duties = cond (eqb first 4) (value % 65536) n.duties;
    }

-- 8: the role of a permission
abbrev pub poked_permission : Permission → ℕ → Permission
poked_permission p value = record { role = value % 65536; action = p.action; object = p.object }

abbrev pub new_permissions : List Permission → Bool → ℕ → ℕ → List Permission
new_permissions l chosen at value =
    put_at chosen max_permissions l at (poked_permission (get_or l at no_permission) value)

-- 9: the wanted set of a rule
abbrev pub poked_rule : Rule → ℕ → Rule
poked_rule r value =
    record { kind = r.kind; actor = r.actor; role = r.role; wanted = value; barred = r.barred }

abbrev pub new_rules : List Rule → Bool → ℕ → ℕ → List Rule
new_rules l chosen at value = put_at chosen max_rules l at (poked_rule (get_or l at no_rule) value)

-- 10 its start, 11 its end, 12 its serial, 13 its doer
abbrev pub poked_duty : Duty → ℕ → ℕ → Duty
poked_duty d first value =
    record {
      serial = record { 0 = cond (eqb first 12) value d.serial.0 };
      doer = cond (eqb first 13) (value % 65536) d.doer;
      what = d.what;
      start = cond (eqb first 10) value d.start;
      end = cond (eqb first 11) value d.end;
    }

abbrev pub new_duties : List Duty → ℕ → ℕ → ℕ → List Duty
new_duties l first at value = put_at true max_duties l at (poked_duty (get_or l at no_duty) first value)

-- 5 the clock, 6 the next serial, 7 the holding of a user
unfoldable pub poked_board : Board → Record → Board
poked_board b r =
    record {
      counts = poked_counts b.counts r.first r.extra;
      clock = cond (eqb r.first 5) r.extra b.clock;
      next = record { 0 = cond (eqb r.first 6) r.extra b.next.0 };
      holdings = put_at (eqb r.first 7) max_users b.holdings r.second r.extra;
      permissions = new_permissions b.permissions (eqb r.first 8) r.second r.extra;
      rules = new_rules b.rules (eqb r.first 9) r.second r.extra;
      duties = new_duties b.duties r.first r.second r.extra;
    }
