-- What the call check promises, for every board value and every lent list.
use Rattle.std.specs.Prelude.{◌≡◌, false, List, [], ◌∷◌, ℕ, ◌<◌, length}
use Rattle.board.specs.declared.Answer.{Answer}
use Rattle.board.specs.declared.Board.{Board}
use Rattle.board.specs.Answers.{Check, check, Answers}
use Rattle.board.specs.Good.{good}
use Rattle.board.specs.Green.{Red}
use Rattle.board.specs.Limits.{max_duties}
use Rattle.board.specs.Numbers as answer
use Rattle.board.specs.Told.{Told}
use Rattle.board.specs.View.{view}

-- Check: 19, 9, 8.
abbrev pub check_checks : Board → ℕ → List Check
check_checks b room =
    check answer.broken (good b ≡ false)
    ∷ (check answer.list (room < max_duties) ∷ (check answer.red (Red (view b)) ∷ []))

-- The number of the first check that applies; with 8, the failing order; no serial. It only reads the board.
pub record Checked (b : Board) (before after : List ℕ) (r : Answer) : Type 0 where
  pub number : Answers (check_checks b (length before)) r.number
  pub told : Told (view b) before after r
  pub serial : r.serial.0 ≡ 0
