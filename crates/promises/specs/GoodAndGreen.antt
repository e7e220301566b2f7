-- A board value that is good and green.
use Rattle.std.specs.Prelude.{◌≡◌, true}
use Rattle.board.specs.declared.Board.{Board}
use Rattle.board.specs.Filler.{Sized}
use Rattle.board.specs.Good.{good}
use Rattle.board.specs.Green.{Green}
use Rattle.board.specs.View.{view}

-- it keeps every rule; its lists are as long as the board's type says
pub record Whole (b : Board) : Type 0 where
  pub sized : Sized b
  pub is_good : good b ≡ true

pub record GoodAndGreen (b : Board) : Type 0 where
  pub whole : Whole b
  pub green : Green (view b)
