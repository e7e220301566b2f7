-- A plain answer other than 8 leaves the list. And what a promise settles: two answers with one number, each
-- told of the same list, are one and leave the same list, once the failing order is chosen. (With 8 that
-- choice is free among true ones: docs/FAILING-ORDERS.md. With every other number there is nothing to
-- choose.)
use mathlib.Core.Path.{◌≡◌, refl, sym, ap, ◌∙◌}
use mathlib.Core.List.{List, ◌++◌}
use Prim.Native.Nat.{ℕ}
use lib.Dec.{eqb}
use lib.ListN.{length, drop}
use borrow.Author.Tests.{eqb-true, eqb-false}
use Rattle.orders.proofs.Tests.{by_test}
use Rattle.board.specs.declared.Answer.{Answer}
use Rattle.board.specs.Answers.{plain_answer}
use Rattle.board.specs.Numbers as answer
use Rattle.board.specs.Told.{Told, OneOrder}
use Rattle.board.specs.View.{View}

pub untouched :
    (v : View) (before : List ℕ) (number : ℕ) → (number ≡ answer.red → ⊥)
    → Told v before before (plain_answer number)
untouched v before number f = record { red = λ e. absurd (f e); otherwise = λ e. (refl, refl) }

module _
    (v : View) (before after after' : List ℕ) (r r' : Answer) (same : r.number ≡ r'.number)
    (none : r.serial.0 ≡ r'.serial.0) (p : Told v before after r) (q : Told v before after' r')
    (one : OneOrder p q)
  where
    red : r.number ≡ answer.red → (r.length ≡ r'.length) × (after ≡ after')
    red e =
        let t = p.red e in
        let u = q.red (sym same ∙ e) in
        let o = one e (sym same ∙ e) in (
          t.counted ∙ ap length o ∙ sym u.counted,
          t.list ∙ ap (λ (l : List ℕ). l ++ drop (length l) before) o ∙ sym u.list,
        )

    otherwise : (r.number ≡ answer.red → ⊥) → (r.length ≡ r'.length) × (after ≡ after')
    otherwise f =
        let t = p.otherwise f in
        let u = q.otherwise (λ e. f (same ∙ e)) in (t.1 ∙ sym u.1, t.0 ∙ sym u.0)

    either : (r.length ≡ r'.length) × (after ≡ after')
    either =
        by_test
        (eqb r.number answer.red)
        (λ e. red (eqb-true r.number answer.red e))
        (λ e. otherwise (eqb-false r.number answer.red e))

    pub same_told : (r ≡ r') × (after ≡ after')
    same_told = (
      λ i. record { number = same i; serial = record { 0 = none i }; length = either.0 i },
      either.1,
    )
