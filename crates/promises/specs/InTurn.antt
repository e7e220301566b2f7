-- Duties done in turn, each at the earliest minute that its window and the clock permit.
use Rattle.std.specs.Prelude.{◌≡◌, false, List, [], ◌∷◌, ℕ, max}
use Rattle.orders.specs.Lists.{Mem}
use Rattle.board.specs.declared.Answer.{Answer}
use Rattle.board.specs.declared.Board.{Board}
use Rattle.board.specs.declared.Duty.{Duty}
use Rattle.board.specs.Answers.{done_answer}
use Rattle.board.specs.Numbers as answer
use Rattle.board.specs.View.{view}
use Rattle.board.specs.Windows.{is_over}
use Rattle.requests.specs.declared.RequestDo.{RequestDo}
use Rattle.do_duty.specs.Does.{Does}

-- no open window is over at this clock
abbrev pub NoneOverAt : ℕ → Board → Type 0
NoneOverAt clock b = (d : Duty) → Mem d (view b).duties → is_over clock d ≡ false

-- no open window is over
abbrev pub NoneOver : Board → Type 0
NoneOver b = NoneOverAt b.clock b

-- this duty is to be done at the earliest minute that its window and the clock permit
abbrev pub earliest_do : Board → Duty → RequestDo
earliest_do b d = record { serial = d.serial; clock = max b.clock d.start }

-- Whatever outcomes keep do's promise, one after the other: each is accepted, and no duty is left. So neither
-- a board that refuses every call nor one that accepts calls and changes nothing keeps the promise.
abbrev pub DoneInTurn : Board → List Duty → Type 0
DoneInTurn b [] = (view b).duties ≡ []
DoneInTurn b (d ∷ order) =
    (r : Answer) (left : Board) → Does b (earliest_do b d) r left
    → (r.number ≡ answer.done) × DoneInTurn left order

-- And such outcomes there are, with the answer done.
abbrev pub CanBeDone : Board → List Duty → Type 0
CanBeDone b [] = (view b).duties ≡ []
CanBeDone b (d ∷ order) =
    (left : Board) × Does b (earliest_do b d) (done_answer 0) left × CanBeDone left order
