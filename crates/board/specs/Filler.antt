-- What stands in the room beyond each count, the smallest board, and what the board's type says of its lists.
use Rattle.std.specs.Prelude.{◌≡◌, length, replicate}
use Rattle.board.specs.declared.Board.{Board}
use Rattle.board.specs.declared.Duty.{Duty}
use Rattle.board.specs.declared.Permission.{Permission}
use Rattle.board.specs.declared.Rule.{Rule}
use Rattle.board.specs.declared.What.TheVariants.{Grant}
use Rattle.board.specs.Limits.{max_users, max_permissions, max_rules, max_duties}

abbrev pub no_permission : Permission
no_permission = record { role = 0; action = 0; object = 0 }

abbrev pub no_rule : Rule
no_rule = record { kind = 0; actor = 0; role = 0; wanted = 0; barred = 0 }

abbrev pub no_duty : Duty
no_duty = record { serial = record { 0 = 0 }; doer = 0; what = Grant 0 0; start = 0; end = 0 }

-- one user with no role, one role, clock 0, next serial 1, nothing else
abbrev pub smallest_board : Board
smallest_board =
    record {
      counts = record { users = 1; roles = 1; permissions = 0; rules = 0; duties = 0 };
      clock = 0;
      next = record { 0 = 1 };
      holdings = replicate max_users 0;
      permissions = replicate max_permissions no_permission;
      rules = replicate max_rules no_rule;
      duties = replicate max_duties no_duty;
    }

-- what the board's type says of its lists
pub record Sized (b : Board) : Type 0 where
  pub holdings : length b.holdings ≡ max_users
  pub permissions : length b.permissions ≡ max_permissions
  pub rules : length b.rules ≡ max_rules
  pub duties : length b.duties ≡ max_duties
