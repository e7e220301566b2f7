-- What a call on the live board promises, for every input: over its checks, the board value b given, what
-- the board says after an accepted call, the serial that an accepted call answers, the lent list before and
-- after, the answer, and the board value left.
use Rattle.std.specs.Prelude.{◌≡◌, List, ℕ}
use Rattle.board.specs.declared.Answer.{Answer}
use Rattle.board.specs.declared.Board.{Board}
use Rattle.board.specs.Answers.{Check, Answers}
use Rattle.board.specs.Numbers as answer
use Rattle.board.specs.Saying.{board_saying}
use Rattle.board.specs.Told.{Told}
use Rattle.board.specs.View.{View}

pub record Called
    (checks : List Check) (b : Board) (v : View) (serial : ℕ) (before after : List ℕ) (r : Answer)
    (left : Board)
    : Type 0
  where
    -- the answer is the number of the first check that applies, and 0 where none does
    pub number : Answers checks r.number
    -- accepted: the board is the one that says v, and the answer carries the serial
    pub accepted : r.number ≡ answer.done → (left ≡ board_saying v) × (r.serial.0 ≡ serial)
    -- refused: the board is untouched, clock included, and the answer carries serial 0
    pub refused : (r.number ≡ answer.done → ⊥) → (left ≡ b) × (r.serial.0 ≡ 0)
    -- with 8, a failing order of v at the start of the lent list, and its length; else the list is
    -- untouched and the length is 0
    pub told : Told v before after r
