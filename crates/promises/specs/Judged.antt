-- What an answer says of the board that is judged: the board read, or the board after the call.
use Rattle.std.specs.Prelude.{◌≡◌, ◌↔◌, false, List, [], ◌∷◌, ℕ, ◌<◌}
use Rattle.board.specs.declared.Answer.{Answer}
use Rattle.board.specs.declared.Board.{Board}
use Rattle.board.specs.Answers.{Check, check}
use Rattle.board.specs.Good.{good}
use Rattle.board.specs.Green.{Green, Red}
use Rattle.board.specs.Limits.{max_duties}
use Rattle.board.specs.Numbers as answer
use Rattle.board.specs.Told.{OrderTold}
use Rattle.board.specs.View.{View}
use Rattle.file.specs.Reads.{read_checks}

-- The answer r, with the lent list before and after, on the board v.
pub record Judged (v : View) (before after : List ℕ) (r : Answer) : Type 0 where
  -- denied exactly if the board would be red, that is, if it is not green
  pub denied : (r.number ≡ answer.red) ↔ Red v
  pub not_green : (r.number ≡ answer.red) ↔ (Green v → ⊥)
  -- accepted exactly if it is green
  pub accepted : (r.number ≡ answer.done) ↔ Green v
  -- with 8, a true failing order of v at the start of the list, and its length
  pub order : r.number ≡ answer.red → OrderTold v before after r.length

-- The earlier checks of check: 19, 9.
abbrev pub check_earlier : Board → ℕ → List Check
check_earlier b room = check answer.broken (good b ≡ false) ∷ check answer.list (room < max_duties) ∷ []

-- The earlier checks of open: 9, then those of the file.
abbrev pub open_earlier : List ℕ → ℕ → List Check
open_earlier s room = check answer.list (room < max_duties) ∷ read_checks s
