-- A session that is carried: its board file opens with 0, each of its records asks for a call, and these are
-- made on the board opened.
use Rattle.std.specs.Prelude.{◌≡◌, List, ℕ}
use Rattle.board.specs.declared.Board.{Board}
use Rattle.board.specs.Numbers as answer
use Rattle.open.specs.Opens.{Opened, Opens}
use Rattle.session.specs.Played.{file_bytes, records_of, Played}
use Rattle.goes_on.specs.Asked.{EachIsCall}

-- The session s leaves this board value.
pub record Leaves (s : List ℕ) (left : Board) : Type 0 where
  pub list : List ℕ
  pub list' : List ℕ
  pub opened : Opened
  pub opens : Opens (file_bytes s) list list' opened
  pub accepted : opened.answer.number ≡ answer.done
  pub calls : EachIsCall (records_of s)
  pub played : Played opened.board (records_of s) left
