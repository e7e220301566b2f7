-- What check promises settles its outcome: two that keep the promise have one number, and they are one
-- answer and leave the same list, once the failing order is chosen.
use mathlib.Core.Path.{◌≡◌, sym, ◌∙◌}
use mathlib.Core.List.{List}
use Prim.Native.Nat.{ℕ}
use lib.ListN.{length}
use Rattle.board.specs.declared.Answer.{Answer}
use Rattle.board.specs.declared.Board.{Board}
use Rattle.board.specs.View.{view}
use Rattle.board.specs.Told.{OneOrder}
use Rattle.board.proofs.AnswersLaws.{same_answer}
use Rattle.board.proofs.ToldLaws.{same_told}
use Rattle.verdict.specs.Checked.{check_checks, Checked}

module _
    (b : Board) (before after after' : List ℕ) (r r' : Answer) (p : Checked b before after r)
    (q : Checked b before after' r')
  where
    pub same_number : r.number ≡ r'.number
    same_number =
        same_answer (check_checks b (length before)) r.number r'.number p.number q.number

    pub same_check : OneOrder p.told q.told → (r ≡ r') × (after ≡ after')
    same_check =
        same_told (view b) before after after' r r' same_number (p.serial ∙ sym q.serial) p.told
        q.told
