-- What admit promises, for every board value, lent list and request.
use Rattle.std.specs.Prelude.{◌≡◌, true, false, List, [], ◌∷◌, ◌++◌, ℕ, length}
use Rattle.board.specs.declared.Answer.{Answer}
use Rattle.board.specs.declared.Board.{Board}
use Rattle.board.specs.After.{with_serial, admitted}
use Rattle.board.specs.Answers.{Check, check}
use Rattle.board.specs.Called.{Called}
use Rattle.board.specs.Green.{Red}
use Rattle.board.specs.Limits.{max_duties, max_next}
use Rattle.board.specs.Numbers as answer
use Rattle.board.specs.View.{View, view}
use Rattle.board.specs.Windows.{window_fits, is_over}
use Rattle.outcomes.specs.Outcomes.{ready_checks}
use Rattle.requests.specs.declared.RequestAdmit.{RequestAdmit}
use Rattle.requests.specs.Requests.{doing_fits, asked}

-- the board says this after an accepted admission: the duty is added with the next serial
abbrev pub after_admit : Board → RequestAdmit → View
after_admit b q = admitted (view b) q.clock (asked q ∷ [])

-- 19, 9, 10, 11, 7, 21, 16, 17
abbrev pub admit_earlier : Board → ℕ → RequestAdmit → List Check
admit_earlier b room q =
    ready_checks b room q.clock
    ++ (check answer.request
    (doing_fits b.counts.users b.counts.roles q.doer q.action q.first q.second ≡ false)
    ∷ check answer.window (window_fits (with_serial b.next.0 (asked q)) ≡ false)
    ∷ check answer.over (is_over q.clock (with_serial b.next.0 (asked q)) ≡ true)
    ∷ check answer.full (length (view b).duties ≡ max_duties)
    ∷ check answer.spent (b.next.0 ≡ max_next)
    ∷ [])

-- Admit: 19, 9, 10, 11, 7, 21, 16, 17, 8.
abbrev pub admit_checks : Board → ℕ → RequestAdmit → List Check
admit_checks b room q = admit_earlier b room q ++ (check answer.red (Red (after_admit b q)) ∷ [])

-- An accepted admission answers the next serial.
abbrev pub Admits : Board → List ℕ → RequestAdmit → Answer → Board → List ℕ → Type 0
Admits b before q r left after =
    Called (admit_checks b (length before) q) b (after_admit b q) b.next.0 before after r left
