-- Any calls on a live board, one after the other: any files, requests, clocks and lent lists, accepted or
-- refused. Of each outcome no more is known than that it keeps the call's promise.
use Rattle.std.specs.Prelude.{◌≡◌, List, [], ◌∷◌, ℕ}
use Rattle.board.specs.declared.Answer.{Answer}
use Rattle.board.specs.declared.Board.{Board}
use Rattle.board.specs.Filler.{smallest_board}
use Rattle.requests.specs.declared.RequestAct.{RequestAct}
use Rattle.requests.specs.declared.RequestAdmit.{RequestAdmit}
use Rattle.requests.specs.declared.RequestDo.{RequestDo}
use Rattle.requests.specs.declared.RequestWithdraw.{RequestWithdraw}
use Rattle.save.specs.Saves.{Saves}
use Rattle.open.specs.Opens.{Opens}
use Rattle.verdict.specs.Checked.{Checked}
use Rattle.plain.specs.Walks.{Walks}
use Rattle.admit.specs.Admits.{Admits}
use Rattle.act.specs.ActsNow.{ActsNow}
use Rattle.do_duty.specs.Does.{Does}
use Rattle.withdraw.specs.Withdraws.{Withdraws}

-- a call: the list or buffer lent to it, and what it asks; open, the bytes of the file
pub data Call : Type 0 where
  open_file : List ℕ → List ℕ → Call
  admit : List ℕ → RequestAdmit → Call
  act : List ℕ → RequestAct → Call
  do_duty : RequestDo → Call
  withdraw : List ℕ → RequestWithdraw → Call
  check : List ℕ → Call
  save : List ℕ → Call
  walk : List ℕ → Call

-- The answer, the board value left and the lent list or buffer left keep the promise of the call on the board
-- value b. An open puts its board in the place of b, accepted or refused.
abbrev pub Keeps : Board → Call → Answer → Board → List ℕ → Type 0
Keeps b (open_file before s) r left after = Opens s before after (record { answer = r; board = left })
Keeps b (admit before q) r left after = Admits b before q r left after
Keeps b (act before q) r left after = ActsNow b before q r left after
Keeps b (do_duty q) r left after = Does b q r left × (after ≡ [])
Keeps b (withdraw before q) r left after = Withdraws b before q r left after
Keeps b (check before) r left after = Checked b before after r × (left ≡ b)
Keeps b (save before) r left after = Saves b before after r × (left ≡ b)
Keeps b (walk before) r left after = Walks b before after r × (left ≡ b)

-- the list or buffer that is lent to the call; none is to do
abbrev pub lent : Call → List ℕ
lent (open_file before s) = before
lent (admit before q) = before
lent (act before q) = before
lent (do_duty q) = []
lent (withdraw before q) = before
lent (check before) = before
lent (save before) = before
lent (walk before) = before

-- the board value that a refused call leaves: the one that it was given, untouched; an open, the smallest
abbrev pub refused_board : Board → Call → Board
refused_board b (open_file before s) = smallest_board
refused_board b (admit before q) = b
refused_board b (act before q) = b
refused_board b (do_duty q) = b
refused_board b (withdraw before q) = b
refused_board b (check before) = b
refused_board b (save before) = b
refused_board b (walk before) = b

-- a call that was made, with its answer and the lent list or buffer after it
pub record Made : Type 0 where
  pub call : Call
  pub answer : Answer
  pub list : List ℕ

-- These calls were made in turn on the board value b, and this board value is left.
abbrev pub Calls : Board → List Made → Board → Type 0
Calls b [] left = left ≡ b
Calls b (m ∷ made) left =
    (between : Board) × Keeps b m.call m.answer between m.list × Calls between made left
