-- The board value that says this: its lists, with the filler in the rest of the room.
use Rattle.std.specs.Prelude.{List, ◌++◌, ℕ, ◌-◌, length, replicate}
use Rattle.board.specs.declared.Board.{Board}
use Rattle.board.specs.Filler.{no_permission, no_rule, no_duty}
use Rattle.board.specs.Limits.{max_users, max_permissions, max_rules, max_duties}
use Rattle.board.specs.View.{View}

-- these records, and filler in the rest of the room
abbrev pub padded : {A : Type 0} → A → ℕ → List A → List A
padded filler room l = l ++ replicate (room - length l) filler

unfoldable pub board_saying : View → Board
board_saying v =
    record {
      counts =
          record {
            users = v.users;
            roles = v.roles;
            permissions = length v.permissions;
            rules = length v.rules;
            duties = length v.duties;
          };
      clock = v.clock;
      next = record { 0 = v.next };
      holdings = padded 0 max_users v.holdings;
      permissions = padded no_permission max_permissions v.permissions;
      rules = padded no_rule max_rules v.rules;
      duties = padded no_duty max_duties v.duties;
    }
