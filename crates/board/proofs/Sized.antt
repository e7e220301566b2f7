-- What owning a board tells of its lists' lengths: of a parameter from `c.well_formed`, of a call's result from its
-- `.ok`.
use mathlib.Core.List.{List}
use mir.Val.{Val}
use denote.Laws.{Is}
use denote.Struct.Declared.{row}
use Rattle.board.specs.declared.Board.{Board}
use Rattle.board.specs.Filler.{Sized}
use Rattle.board.specs.contracts.Board.{the_type}

pub sized : (b : Board) (vs : List Val) → Is (row the_type) b vs → Sized b
sized b vs g =
    let f = g.1.1.1.1.1 in
    record {
      holdings = f.0.1.0.1;
      permissions = f.1.0.1.0.1;
      rules = f.1.1.0.1.0.1;
      duties = f.1.1.1.0.1.0.1;
    }
