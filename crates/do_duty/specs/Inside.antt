-- The checks of do as the code makes them, of the duty d that was found. No promise of the call rests on
-- these words.
use Rattle.std.specs.Prelude.{◌≡◌, true, false, List, [], ◌∷◌, ◌++◌, ℕ}
use Rattle.orders.specs.Lists.{any}
use Rattle.board.specs.declared.Board.{Board}
use Rattle.board.specs.declared.Duty.{Duty}
use Rattle.board.specs.Answers.{Check, check}
use Rattle.board.specs.Green.{permitted_now}
use Rattle.board.specs.Numbers as answer
use Rattle.board.specs.View.{view}
use Rattle.board.specs.Windows.{wholly_before, in_window}

-- 13 and 14, where these duties are open
abbrev pub time_checks : List Duty → Duty → ℕ → List Check
time_checks duties d clock =
    check answer.outside (in_window clock d ≡ false)
    ∷ check answer.held_back (any (λ y. wholly_before y d) duties ≡ true)
    ∷ []

-- 13, 14 and 15
abbrev pub duty_checks : Board → Duty → ℕ → List Check
duty_checks b d clock =
    time_checks (view b).duties d clock
    ++ (check answer.not_permitted (permitted_now (view b) d.doer d.what ≡ false) ∷ [])
