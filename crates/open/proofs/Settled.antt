-- What open promises settles its outcome: two outcomes that keep the promise have one number and one board,
-- and they are one answer and leave the same list, once the failing order is chosen.
use mathlib.Core.Path.{◌≡◌, sym, ◌∙◌}
use mathlib.Core.List.{List}
use Prim.Native.Nat.{ℕ}
use lib.Dec.{eqb}
use lib.ListN.{length}
use borrow.Author.Tests.{eqb-true, eqb-false}
use Rattle.orders.proofs.Tests.{by_test}
use Rattle.board.specs.Numbers as answer
use Rattle.board.specs.Told.{OneOrder}
use Rattle.board.proofs.AnswersLaws.{same_answer}
use Rattle.board.proofs.ToldLaws.{same_told}
use Rattle.open.specs.Opens.{Opened, said, open_checks, Opens}

module _
    (s before after after' : List ℕ) (r r' : Opened) (p : Opens s before after r)
    (q : Opens s before after' r')
  where
    pub same_number : r.answer.number ≡ r'.answer.number
    same_number =
        same_answer (open_checks s (length before)) r.answer.number r'.answer.number p.number
        q.number

    pub same_board : r.board ≡ r'.board
    same_board =
        by_test
        (eqb r.answer.number answer.done)
        (λ t.
        let e = eqb-true r.answer.number answer.done t in
        p.accepted e ∙ sym (q.accepted (sym same_number ∙ e)))
        (λ f.
        let d = eqb-false r.answer.number answer.done f in
        p.refused d ∙ sym (q.refused (λ e. d (same_number ∙ e))))

    pub same_opening : OneOrder p.told q.told → (r.answer ≡ r'.answer) × (after ≡ after')
    same_opening =
        same_told (said s) before after after' r.answer r'.answer same_number
        (p.serial ∙ sym q.serial) p.told q.told
