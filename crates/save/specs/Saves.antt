-- What saving a board promises, for every board value and every lent buffer.
use Rattle.std.specs.Prelude.{◌≡◌, false, List, [], ◌∷◌, ◌++◌, ℕ, ◌<◌, length, drop}
use Rattle.board.specs.declared.Answer.{Answer}
use Rattle.board.specs.declared.Board.{Board}
use Rattle.board.specs.Answers.{Check, check, Answers}
use Rattle.board.specs.Good.{good}
use Rattle.board.specs.Numbers as answer
use Rattle.board.specs.View.{view}
use Rattle.save.specs.FileOf.{file_of}

-- the file that the board is saved as
abbrev pub saved : Board → List ℕ
saved b = file_of (view b)

-- Save: 19, 20.
abbrev pub save_checks : Board → ℕ → List Check
save_checks b room =
    check answer.broken (good b ≡ false) ∷ check answer.room (room < length (saved b)) ∷ []

-- The number of the first check that applies; done, the file stands at the start of the buffer, the rest of
-- which is untouched, and the answer carries the file's length; refused, the whole buffer is untouched and
-- the length is 0; no serial.
pub record Saves (b : Board) (before after : List ℕ) (r : Answer) : Type 0 where
  pub number : Answers (save_checks b (length before)) r.number
  pub done :
      r.number ≡ answer.done
      → (after ≡ saved b ++ drop (length (saved b)) before) × (r.length ≡ length (saved b))
  pub refused : (r.number ≡ answer.done → ⊥) → (after ≡ before) × (r.length ≡ 0)
  pub serial : r.serial.0 ≡ 0
