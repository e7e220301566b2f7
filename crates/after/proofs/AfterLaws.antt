-- On a good board value the code's board after an act, and after a duty is taken out, is the board value
-- that says `acted` and `withdrawn`: of each list the records change as said, and the filler stays behind
-- them.
use mathlib.Core.Path.{◌≡◌, sym, ap, ◌∙◌}
use mathlib.Core.Bool.{true}
use Prim.Native.Nat.{ℕ}
use lib.ListN.{length, take-append-drop}
use Rattle.board.specs.declared.Board.{Board}
use Rattle.board.specs.declared.What.{What}
use Rattle.board.specs.After.{acted, withdrawn}
use Rattle.board.specs.Filler.{no_permission, no_rule, no_duty, Sized}
use Rattle.board.specs.Good.{good, what_fits}
use Rattle.board.specs.Limits.{max_users, max_permissions, max_rules, max_duties}
use Rattle.board.specs.Permitted.{changed}
use Rattle.board.specs.Saying.{padded, board_saying}
use Rattle.board.specs.View.{view}
use Rattle.board.proofs.FillerLaws.{filler→beyond}
use Rattle.board.proofs.GoodLaws.{good→filler}
use Rattle.board.proofs.SayingLaws.{view_fits, saying_view}
use Rattle.permitted.proofs.Laws.{changed_length, changed_take, changed_drop}
use Rattle.after.specs.Boards.{acted_board, withdrawn_board}

module _ (b : Board) (size : Sized b) (is_good : good b ≡ true) where
  -- the board value, part by part, as the one that says what it says
  pub same : b ≡ board_saying (view b)
  same = sym (saying_view b size is_good)

  pub same_permissions :
      (b.counts.permissions ≡ length (view b).permissions)
      × (b.permissions ≡ padded no_permission max_permissions (view b).permissions)
  unfolding board_saying
  same_permissions = (
    ap (λ (c : Board). c.counts.permissions) same,
    ap (λ (c : Board). c.permissions) same,
  )

  pub same_rules :
      (b.counts.rules ≡ length (view b).rules) × (b.rules ≡ padded no_rule max_rules (view b).rules)
  unfolding board_saying
  same_rules = (ap (λ (c : Board). c.counts.rules) same, ap (λ (c : Board). c.rules) same)

  pub same_duties :
      (b.counts.duties ≡ length (view b).duties) × (b.duties ≡ padded no_duty max_duties (view b).duties)
  unfolding board_saying
  same_duties = (ap (λ (c : Board). c.counts.duties) same, ap (λ (c : Board). c.duties) same)

  pub same_holdings : b.holdings ≡ padded 0 max_users (view b).holdings
  unfolding board_saying
  same_holdings = ap (λ (c : Board). c.holdings) same

  -- ---- act

  module _ (clock : ℕ) (what : What) (fits : what_fits b.counts.users b.counts.roles what ≡ true) where
    abbrev users : ℕ
    users = b.counts.users

    changed_holdings : changed b.holdings what ≡ padded 0 max_users (changed (view b).holdings what)
    changed_holdings =
        let held = changed_length (view b).holdings what ∙ (view_fits b size is_good).held in
        let beyond = (filler→beyond b size (good→filler b is_good)).holdings in
        sym (take-append-drop users (changed b.holdings what))
        ∙ rw (
          changed_take b.holdings users b.counts.roles what fits,
          changed_drop b.holdings users b.counts.roles what fits,
          beyond,
          held,
        )

    pub acted_is : acted_board b clock what ≡ board_saying (acted (view b) clock what)
    unfolding acted_board board_saying
    acted_is =
        λ i.
        record {
          counts =
              record {
                users = b.counts.users;
                roles = b.counts.roles;
                permissions = same_permissions.0 i;
                rules = same_rules.0 i;
                duties = same_duties.0 i;
              };
          clock = clock;
          next = b.next;
          holdings = changed_holdings i;
          permissions = same_permissions.1 i;
          rules = same_rules.1 i;
          duties = same_duties.1 i;
        }

  -- ---- a duty taken out

  pub withdrawn_is :
      (clock serial : ℕ) → withdrawn_board b clock serial ≡ board_saying (withdrawn (view b) clock serial)
  unfolding withdrawn_board board_saying
  withdrawn_is clock serial =
      λ i.
      record {
        counts =
            record {
              users = b.counts.users;
              roles = b.counts.roles;
              permissions = same_permissions.0 i;
              rules = same_rules.0 i;
              duties = (board_saying (withdrawn (view b) clock serial)).counts.duties;
            };
        clock = clock;
        next = b.next;
        holdings = same_holdings i;
        permissions = same_permissions.1 i;
        rules = same_rules.1 i;
        duties = (board_saying (withdrawn (view b) clock serial)).duties;
      }
