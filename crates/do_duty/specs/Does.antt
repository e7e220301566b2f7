-- What do promises, for every board value and request. No list is lent to it.
use Rattle.std.specs.Prelude.{◌≡◌, true, false, List, [], ◌∷◌, ◌<◌}
use Rattle.orders.specs.Lists.{Mem}
use Rattle.board.specs.declared.Answer.{Answer}
use Rattle.board.specs.declared.Board.{Board}
use Rattle.board.specs.declared.Duty.{Duty}
use Rattle.board.specs.After.{did}
use Rattle.board.specs.Answers.{Check, check}
use Rattle.board.specs.Called.{Called}
use Rattle.board.specs.Good.{good}
use Rattle.board.specs.Green.{permitted_now}
use Rattle.board.specs.Numbers as answer
use Rattle.board.specs.Open.{NotOpen, OpenWith}
use Rattle.board.specs.View.{View, view}
use Rattle.board.specs.Windows.{wholly_before, in_window}
use Rattle.requests.specs.declared.RequestDo.{RequestDo}

-- some open duty is wholly before d
pub record HeldBack (v : View) (d : Duty) : Type 0 where
  pub other : Duty
  pub open_other : Mem other v.duties
  pub before : wholly_before other d ≡ true

-- the board says this after a duty was done: its change is made, and it is removed
abbrev pub after_do : Board → RequestDo → View
after_do b q = did (view b) q.clock q.serial.0

-- Do: 19, 10, 12, 13, 14, 15.
abbrev pub do_checks : Board → RequestDo → List Check
do_checks b q =
    let open_with = OpenWith (view b) q.serial.0 in
    check answer.broken (good b ≡ false)
    ∷ check answer.clock (q.clock < b.clock)
    ∷ check answer.not_open (NotOpen (view b) q.serial.0)
    ∷ check answer.outside (open_with (λ d. in_window q.clock d ≡ false))
    ∷ check answer.held_back (open_with (HeldBack (view b)))
    ∷ check answer.not_permitted (open_with (λ d. permitted_now (view b) d.doer d.what ≡ false))
    ∷ []

-- It answers no serial.
abbrev pub Does : Board → RequestDo → Answer → Board → Type 0
Does b q r left = Called (do_checks b q) b (after_do b q) 0 [] [] r left
