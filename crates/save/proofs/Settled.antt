-- What save promises settles its outcome: two that keep the promise are one answer and leave one buffer.
use mathlib.Core.Path.{◌≡◌, sym, ◌∙◌}
use mathlib.Core.List.{List}
use Prim.Native.Nat.{ℕ}
use lib.Dec.{eqb}
use lib.ListN.{length}
use borrow.Author.Tests.{eqb-true, eqb-false}
use Rattle.orders.proofs.Tests.{by_test}
use Rattle.board.specs.declared.Answer.{Answer}
use Rattle.board.specs.declared.Board.{Board}
use Rattle.board.specs.Numbers as answer
use Rattle.board.proofs.AnswersLaws.{same_answer}
use Rattle.save.specs.Saves.{save_checks, Saves}

pub same_save :
    (b : Board) (before after after' : List ℕ) (r r' : Answer) → Saves b before after r
    → Saves b before after' r' → (r ≡ r') × (after ≡ after')
same_save b before after after' r r' p q =
    by_test
    (eqb r.number answer.done)
    (λ e. both (eqb-true r.number answer.done e))
    (λ e. neither (eqb-false r.number answer.done e))
  where
    number : r.number ≡ r'.number
    number = same_answer (save_checks b (length before)) r.number r'.number p.number q.number

    serial : r.serial.0 ≡ r'.serial.0
    serial = p.serial ∙ sym q.serial

    told : (r.length ≡ r'.length) → after ≡ after' → (r ≡ r') × (after ≡ after')
    told e f =
        (λ i. record { number = number i; serial = record { 0 = serial i }; length = e i }, f)

    both : r.number ≡ answer.done → (r ≡ r') × (after ≡ after')
    both e =
        let x = p.done e in
        let y = q.done (sym number ∙ e) in told (x.1 ∙ sym y.1) (x.0 ∙ sym y.0)

    neither : (r.number ≡ answer.done → ⊥) → (r ≡ r') × (after ≡ after')
    neither f =
        let x = p.refused f in
        let y = q.refused (λ e. f (number ∙ e)) in told (x.1 ∙ sym y.1) (x.0 ∙ sym y.0)
