-- What withdraw promises, for every board value, lent list and request.
use Rattle.std.specs.Prelude.{List, [], ◌∷◌, ◌++◌, ℕ, length}
use Rattle.board.specs.declared.Answer.{Answer}
use Rattle.board.specs.declared.Board.{Board}
use Rattle.board.specs.After.{withdrawn}
use Rattle.board.specs.Answers.{Check, check}
use Rattle.board.specs.Called.{Called}
use Rattle.board.specs.Green.{Red}
use Rattle.board.specs.Numbers as answer
use Rattle.board.specs.Open.{NotOpen}
use Rattle.board.specs.View.{View, view}
use Rattle.outcomes.specs.Outcomes.{ready_checks}
use Rattle.requests.specs.declared.RequestWithdraw.{RequestWithdraw}

-- the board says this after an accepted withdrawal: the duty is removed
abbrev pub after_withdraw : Board → RequestWithdraw → View
after_withdraw b q = withdrawn (view b) q.clock q.serial.0

-- 19, 9, 10, 12
abbrev pub withdraw_earlier : Board → ℕ → RequestWithdraw → List Check
withdraw_earlier b room q =
    ready_checks b room q.clock ++ (check answer.not_open (NotOpen (view b) q.serial.0) ∷ [])

-- Withdraw: 19, 9, 10, 12, 8.
abbrev pub withdraw_checks : Board → ℕ → RequestWithdraw → List Check
withdraw_checks b room q = withdraw_earlier b room q ++ (check answer.red (Red (after_withdraw b q)) ∷ [])

-- A withdrawal answers no serial.
abbrev pub Withdraws : Board → List ℕ → RequestWithdraw → Answer → Board → List ℕ → Type 0
Withdraws b before q r left after =
    Called (withdraw_checks b (length before) q) b (after_withdraw b q) 0 before after r left
