-- The board value after an act and after a duty is taken out, field by field. That on a good board value they
-- are the ones that say `acted` and `withdrawn` (crate board, specs/After.antt) is proved in
-- proofs/AfterLaws.antt. After a duty is done: it is taken out, and its change is made.
use Rattle.std.specs.Prelude.{ℕ, length}
use Rattle.board.specs.declared.Board.{Board}
use Rattle.board.specs.declared.What.{What}
use Rattle.board.specs.After.{without_serial}
use Rattle.board.specs.Filler.{no_duty}
use Rattle.board.specs.Limits.{max_duties}
use Rattle.board.specs.Permitted.{changed}
use Rattle.board.specs.Saying.{padded}
use Rattle.board.specs.View.{view}

unfoldable pub acted_board : Board → ℕ → What → Board
acted_board b clock what =
    record {
      counts = b.counts;
      clock = clock;
      next = b.next;
      holdings = changed b.holdings what;
      permissions = b.permissions;
      rules = b.rules;
      duties = b.duties;
    }

unfoldable pub withdrawn_board : Board → ℕ → ℕ → Board
withdrawn_board b clock serial =
    record {
      counts =
          record {
            users = b.counts.users;
            roles = b.counts.roles;
            permissions = b.counts.permissions;
            rules = b.counts.rules;
            duties = length (without_serial serial (view b).duties);
          };
      clock = clock;
      next = b.next;
      holdings = b.holdings;
      permissions = b.permissions;
      rules = b.rules;
      duties = padded no_duty max_duties (without_serial serial (view b).duties);
    }

abbrev pub did_board : Board → ℕ → ℕ → What → Board
did_board b clock serial what = acted_board (withdrawn_board b clock serial) clock what
