-- The board as the papers see it: lists without filler.
use Rattle.std.specs.Prelude.{List, ℕ, take}
use Rattle.board.specs.declared.Board.{Board}
use Rattle.board.specs.declared.Duty.{Duty}
use Rattle.board.specs.declared.Permission.{Permission}
use Rattle.board.specs.declared.Rule.{Rule}

-- What a board says. A holding is a set of roles, one for each user; the duties are the open ones, the pool.
pub record View : Type 0 where
  pub users : ℕ
  pub roles : ℕ
  pub clock : ℕ
  pub next : ℕ
  pub holdings : List ℕ
  pub permissions : List Permission
  pub rules : List Rule
  pub duties : List Duty

abbrev pub view : Board → View
view b =
    record {
      users = b.counts.users;
      roles = b.counts.roles;
      clock = b.clock;
      next = b.next.0;
      holdings = take b.counts.users b.holdings;
      permissions = take b.counts.permissions b.permissions;
      rules = take b.counts.rules b.rules;
      duties = take b.counts.duties b.duties;
    }
