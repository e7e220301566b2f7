-- What the call walk promises, for every board value and every lent list: the first failing order of the
-- plain walk, and with it the outcome whole.
use Rattle.std.specs.Prelude.{◌≡◌, false, List, [], ◌∷◌, ◌++◌, map, ℕ, ◌<◌, length, drop}
use Rattle.std.specs.Prelude.{Option, Some}
use Rattle.orders.specs.Plain.{first_failing}
use Rattle.board.specs.declared.Answer.{Answer}
use Rattle.board.specs.declared.Board.{Board}
use Rattle.board.specs.declared.Duty.{Duty}
use Rattle.board.specs.Answers.{Check, check, Answers}
use Rattle.board.specs.Good.{good}
use Rattle.board.specs.Green.{Red, world_of}
use Rattle.board.specs.Limits.{max_duties}
use Rattle.board.specs.Numbers as answer
use Rattle.board.specs.Permitted.{held_in}
use Rattle.board.specs.View.{View, view}

-- a pool of more duties is not walked
abbrev pub most : ℕ
most = 8

-- the first failing order of a board, from the holdings now
abbrev pub first_failing_of : View → Option (List Duty)
first_failing_of v = first_failing (world_of v) (length v.duties) (held_in v.holdings) v.duties

abbrev pub serials : List Duty → List ℕ
serials l = map (λ (d : Duty). d.serial.0) l

-- its serials stand at the start of the list, the rest of which is untouched; n is their number
pub record FirstTold (v : View) (before after : List ℕ) (n : ℕ) : Type 0 where
  pub order : List Duty
  pub found : first_failing_of v ≡ Some order
  pub counted : n ≡ length order
  pub list : after ≡ serials order ++ drop (length order) before

-- Walk: 19, 9, 22, 8.
abbrev pub walk_checks : Board → ℕ → List Check
walk_checks b room =
    check answer.broken (good b ≡ false)
    ∷ (check answer.list (room < max_duties)
    ∷ (check answer.many (most < length (view b).duties) ∷ (check answer.red (Red (view b)) ∷ [])))

-- The number of the first check that applies; no serial; with 8, the first failing order; every other answer
-- leaves the whole list untouched and carries length 0. It only reads the board.
pub record Walks (b : Board) (before after : List ℕ) (r : Answer) : Type 0 where
  pub number : Answers (walk_checks b (length before)) r.number
  pub serial : r.serial.0 ≡ 0
  pub red : r.number ≡ answer.red → FirstTold (view b) before after r.length
  pub otherwise : (r.number ≡ answer.red → ⊥) → (after ≡ before) × (r.length ≡ 0)
