-- What opening a board file promises, for every byte string and every lent list.
use Rattle.std.specs.Prelude.{◌≡◌, List, [], ◌∷◌, ◌++◌, ℕ, ◌<◌, length, Result}
use Rattle.board.specs.declared.Answer.{Answer}
use Rattle.board.specs.declared.Board.{Board}
use Rattle.board.specs.declared.Refusal.{Refusal}
use Rattle.board.specs.Answers.{Check, check, Answers}
use Rattle.board.specs.Filler.{smallest_board}
use Rattle.board.specs.Green.{Red}
use Rattle.board.specs.Limits.{max_duties}
use Rattle.board.specs.Numbers as answer
use Rattle.board.specs.Refusals.{answered, plainly_done}
use Rattle.board.specs.Told.{Told}
use Rattle.board.specs.View.{View, view}
use Rattle.file.specs.Reads.{read_checks, board_of, board_read}

-- What opening a file gives: the answer, and the board that is left.
pub record Opened : Type 0 where
  pub answer : Answer
  pub board : Board

-- by the call's result: a file that is refused leaves the smallest board
abbrev pub opened_by : Result Board Refusal → Opened
opened_by r = record { answer = answered plainly_done r; board = board_read r }

-- what the file says
abbrev pub said : List ℕ → View
said s = view (board_of s)

-- Open: 9, then the checks of the file, then 8.
abbrev pub open_checks : List ℕ → ℕ → List Check
open_checks s room =
    check answer.list (room < max_duties) ∷ (read_checks s ++ (check answer.red (Red (said s)) ∷ []))

-- The number of the first check that applies; an accepted file gives exactly the board that it says, a
-- refused one, red included, the smallest board; with 8, the failing order; no serial.
pub record Opens (s before after : List ℕ) (r : Opened) : Type 0 where
  pub number : Answers (open_checks s (length before)) r.answer.number
  pub accepted : r.answer.number ≡ answer.done → r.board ≡ board_of s
  pub refused : (r.answer.number ≡ answer.done → ⊥) → r.board ≡ smallest_board
  pub told : Told (said s) before after r.answer
  pub serial : r.answer.serial.0 ≡ 0
