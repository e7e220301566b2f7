-- The serials that calls gave: each accepted admission answers the serial of its duty. An open puts another
-- live board in the place of the one before, and with it begin other serials.
use Rattle.std.specs.Prelude.{cond, List, [], ◌∷◌, ℕ, ◌<◌, eqb}
use Rattle.orders.specs.Lists.{Mem, Pairwise}
use Rattle.board.specs.declared.Answer.{Answer}
use Rattle.board.specs.declared.Board.{Board}
use Rattle.board.specs.declared.Duty.{Duty}
use Rattle.board.specs.Numbers as answer
use Rattle.board.specs.View.{view}
use Rattle.promises.specs.Calls.{Call, open_file, admit, act, do_duty, withdraw, check, save, walk, Made}

-- the serials that are given on one live board from this call on; `later` are those from the next call on. An
-- accepted admission gives its own; after an open the live board is another.
abbrev pub given : Call → Answer → List ℕ → List ℕ
given (open_file before s) r later = []
given (admit before q) r later = cond (eqb r.number answer.done) (r.serial.0 ∷ later) later
given (act before q) r later = later
given (do_duty q) r later = later
given (withdraw before q) r later = later
given (check before) r later = later
given (save before) r later = later
given (walk before) r later = later

-- the serials that these calls gave, in turn, on the live board that the first of them was made on
abbrev pub all_given : List Made → List ℕ
all_given [] = []
all_given (m ∷ made) = given m.call m.answer (all_given made)

-- Each serial that is given on the board value b is above every serial that was open on it, and above every
-- one that was given before.
pub record NeverTwice (b : Board) (made : List Made) : Type 0 where
  pub above_open : (n : ℕ) → Mem n (all_given made) → (d : Duty) → Mem d (view b).duties → d.serial.0 < n
  pub above_given : Pairwise (λ m n. m < n) (all_given made)
