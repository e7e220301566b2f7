-- What `judged` promises settles its outcome, once the failing order is chosen; and what a call by value
-- gives is settled by its answer and the board left: it is accepted exactly if its number is that of done.
use mathlib.Core.Path.{◌≡◌, refl, sym, ap, ◌∙◌}
use mathlib.Core.List.{List}
use Prim.Native.Nat.{ℕ}
use lib.Dec.{eqb}
use lib.ListN.{length}
use borrow.Author.Tests.{eqb-true, eqb-false, ne_eqb}
use Rattle.std.specs.Prelude.{Result, Ok, Err}
use Rattle.std.proofs.Common.{is_ok}
use Rattle.orders.proofs.Tests.{by_test}
use Rattle.board.specs.declared.Answer.{Answer}
use Rattle.board.specs.declared.Board.{Board}
use Rattle.board.specs.declared.Refusal.{Refusal}
use Rattle.board.specs.Numbers as answer
use Rattle.board.specs.Refusals.{number_of}
use Rattle.board.specs.Told.{OneOrder}
use Rattle.board.specs.View.{view}
use Rattle.board.proofs.AnswersLaws.{same_answer}
use Rattle.board.proofs.RefusalLaws.{refusal_numbered, refusal_answered}
use Rattle.board.proofs.ToldLaws.{same_told}
use Rattle.verdict.specs.Checked.{check_checks}
use Rattle.outcomes.specs.declared.Accepted.{Accepted}
use Rattle.outcomes.specs.Outcomes.{answer_of, board_left, Judges}

-- a call is accepted exactly if its number is that of done
pub flagged : (r : Result Accepted Refusal) → is_ok r ≡ eqb (answer_of r).number answer.done
flagged (Ok accepted) = refl
flagged (Err e) = sym (ne_eqb (number_of e) answer.done (refusal_numbered e))

-- two outcomes with one answer and one board left are one
pub same_outcome :
    (b : Board) (r r' : Result Accepted Refusal) → answer_of r ≡ answer_of r'
    → board_left b r ≡ board_left b r' → r ≡ r'
same_outcome b (Ok p) (Ok q) a left = λ i. Ok (record { board = left i; serial = (a i).serial })
same_outcome b (Ok p) (Err f) a left = absurd (refusal_numbered f (sym (ap (λ (x : Answer). x.number) a)))
same_outcome b (Err e) (Ok q) a left = absurd (refusal_numbered e (ap (λ (x : Answer). x.number) a))
same_outcome b (Err e) (Err f) a left = ap Err (refusal_answered e f a)

module _
    (b next : Board) (serial : ℕ) (before after after' : List ℕ) (r r' : Result Accepted Refusal)
    (p : Judges b next serial before after r) (q : Judges b next serial before after' r')
  where
    same_number : (answer_of r).number ≡ (answer_of r').number
    same_number =
        same_answer (check_checks next (length before)) (answer_of r).number (answer_of r').number p.number
        q.number

    same_rest : (board_left b r ≡ board_left b r') × ((answer_of r).serial.0 ≡ (answer_of r').serial.0)
    same_rest =
        by_test
        (eqb (answer_of r).number answer.done)
        (λ t.
        let e = eqb-true (answer_of r).number answer.done t in
        let m = p.accepted e in
        let n = q.accepted (sym same_number ∙ e) in (m.0 ∙ sym n.0, m.1 ∙ sym n.1))
        (λ t.
        let d = eqb-false (answer_of r).number answer.done t in
        let m = p.refused d in
        let n = q.refused (λ e. d (same_number ∙ e)) in (m.0 ∙ sym n.0, m.1 ∙ sym n.1))

    pub same_judged : OneOrder p.told q.told → (r ≡ r') × (after ≡ after')
    same_judged one =
        let told =
        same_told (view next) before after after' (answer_of r) (answer_of r') same_number same_rest.1
        p.told q.told one in
        (same_outcome b r r' told.0 same_rest.0, told.1)
