-- Outcomes of calls by value.
use Rattle.std.specs.Prelude.{◌≡◌, false, List, [], ◌∷◌, ℕ, ◌<◌, length, Result, Ok, Err}
use Rattle.board.specs.declared.Answer.{Answer}
use Rattle.board.specs.declared.Board.{Board}
use Rattle.board.specs.declared.Refusal.{Refusal}
use Rattle.board.specs.Answers.{Check, check, Answers, done_answer}
use Rattle.board.specs.Good.{good}
use Rattle.board.specs.Limits.{max_duties}
use Rattle.board.specs.Numbers as answer
use Rattle.board.specs.Refusals.{answered}
use Rattle.board.specs.Told.{Told}
use Rattle.board.specs.View.{view}
use Rattle.verdict.specs.Checked.{check_checks}
use Rattle.outcomes.specs.declared.Accepted.{Accepted}

-- what the call answers: an accepted one its serial
abbrev pub answer_of : Result Accepted Refusal → Answer
answer_of r = answered (λ (accepted : Accepted). done_answer accepted.serial.0) r

-- The board value left: an accepted call leaves the board after it, a refused one the board b that it was
-- given.
abbrev pub board_left : Board → Result Accepted Refusal → Board
board_left b (Ok accepted) = accepted.board
board_left b (Err e) = b

-- 19, 9, 10: what the calls with a lent list, of so many entries, test first
abbrev pub ready_checks : Board → ℕ → ℕ → List Check
ready_checks b room clock =
    check answer.broken (good b ≡ false)
    ∷ check answer.list (room < max_duties)
    ∷ check answer.clock (clock < b.clock)
    ∷ []

-- The board `next` judged by the checks of check. Where none applies the outcome is that board, with the
-- serial; else it is the board b as it was, with the answer of check.
pub record Judges (b next : Board) (serial : ℕ) (before after : List ℕ) (r : Result Accepted Refusal) : Type 0
  where
    pub number : Answers (check_checks next (length before)) (answer_of r).number
    pub accepted :
        (answer_of r).number ≡ answer.done → (board_left b r ≡ next) × ((answer_of r).serial.0 ≡ serial)
    pub refused :
        ((answer_of r).number ≡ answer.done → ⊥) → (board_left b r ≡ b) × ((answer_of r).serial.0 ≡ 0)
    pub told : Told (view next) before after (answer_of r)
