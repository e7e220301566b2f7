-- What act promises, for every board value, lent list and request.
use Rattle.std.specs.Prelude.{◌≡◌, false, List, [], ◌∷◌, ◌++◌, ℕ, length}
use Rattle.board.specs.declared.Answer.{Answer}
use Rattle.board.specs.declared.Board.{Board}
use Rattle.board.specs.declared.What.{What}
use Rattle.board.specs.After.{acted}
use Rattle.board.specs.Answers.{Check, check}
use Rattle.board.specs.Called.{Called}
use Rattle.board.specs.Doing.{what_of}
use Rattle.board.specs.Green.{Red, permitted_now}
use Rattle.board.specs.Numbers as answer
use Rattle.board.specs.View.{View, view}
use Rattle.outcomes.specs.Outcomes.{ready_checks}
use Rattle.requests.specs.declared.RequestAct.{RequestAct}
use Rattle.requests.specs.Requests.{doing_fits}

-- what is to be done now
abbrev pub what_now : RequestAct → What
what_now q = what_of q.action q.first q.second

-- the board says this after an accepted act: the change is made
abbrev pub after_act : Board → RequestAct → View
after_act b q = acted (view b) q.clock (what_now q)

-- 19, 9, 10, 11, 15
abbrev pub act_earlier : Board → ℕ → RequestAct → List Check
act_earlier b room q =
    ready_checks b room q.clock
    ++ (check answer.request
    (doing_fits b.counts.users b.counts.roles q.doer q.action q.first q.second ≡ false)
    ∷ check answer.not_permitted (permitted_now (view b) q.doer (what_now q) ≡ false)
    ∷ [])

-- Act: 19, 9, 10, 11, 15, 8.
abbrev pub act_checks : Board → ℕ → RequestAct → List Check
act_checks b room q = act_earlier b room q ++ (check answer.red (Red (after_act b q)) ∷ [])

-- An act answers no serial.
abbrev pub ActsNow : Board → List ℕ → RequestAct → Answer → Board → List ℕ → Type 0
ActsNow b before q r left after =
    Called (act_checks b (length before) q) b (after_act b q) 0 before after r left
