-- What judging a board gives. No promise of a call rests on these words.
use Rattle.std.specs.Prelude.{◌≡◌, List, ℕ, Result, Ok, Err}
use Rattle.board.specs.declared.Refusal.{Refusal}
use Rattle.board.specs.declared.Refusal.TheVariants.{Red}
use Rattle.board.specs.Green.{Green}
use Rattle.board.specs.Told.{OrderTold}
use Rattle.board.specs.View.{View}

-- green and nothing written; or red and a failing order written, with its length
abbrev pub Judged : {A : Type 0} → View → List ℕ → List ℕ → Result A Refusal → Type 0
Judged v before after (Ok done) = Green v × (after ≡ before)
Judged v before after (Err e) = (n : ℕ) × ((e ≡ Red n) × OrderTold v before after n)
