-- Two outcomes of one call that keep its promise are equal, but for the choice of failing order with 8: there
-- number, board, serial and the list beyond each order are settled. (docs/FAILING-ORDERS.md: why it is free.)
use mathlib.Core.Path.{◌≡◌, refl, sym, ap, ◌∙◌}
use mathlib.Core.List.{List, []}
use Prim.Native.Nat.{ℕ}
use native.Mathlib.Omega.{arith}
use lib.Dec.{eqb}
use lib.ListN.{length, take, drop}
use lib.Seq.{take_at, drop_at}
use borrow.Author.Tests.{eqb-true, eqb-false}
use Rattle.orders.proofs.Tests.{by_test}
use Rattle.board.specs.declared.Answer.{Answer}
use Rattle.board.specs.declared.Board.{Board}
use Rattle.board.specs.Answers.{Check}
use Rattle.board.specs.Called.{Called}
use Rattle.board.specs.Filler.{smallest_board}
use Rattle.board.specs.Numbers as answer
use Rattle.board.specs.Told.{Told, OrderTold}
use Rattle.board.specs.View.{View, view}
use Rattle.board.proofs.AnswersLaws.{same_answer, never_answered}
use Rattle.board.proofs.ToldLaws.{same_told}
use Rattle.save.specs.Saves.{save_checks}
use Rattle.save.proofs.Settled.{same_save}
use Rattle.verdict.specs.Checked.{check_checks}
use Rattle.plain.proofs.Settled.{same_walk, walk_told}
use Rattle.open.specs.Opens.{said, open_checks}
use Rattle.admit.specs.Admits.{after_admit, admit_checks}
use Rattle.act.specs.ActsNow.{after_act, act_checks}
use Rattle.do_duty.specs.Does.{after_do, do_checks}
use Rattle.withdraw.specs.Withdraws.{after_withdraw, withdraw_checks}
use Rattle.promises.specs.Calls.{
  Call,
  open_file,
  admit,
  act,
  do_duty,
  withdraw,
  check,
  save,
  walk,
  Keeps,
  lent,
}
use Rattle.promises.specs.Settled.{Settled}
use Rattle.promises.proofs.Kept.{open_called}

-- ---- the lent list

module _ (v : View) (before after : List ℕ) (n : ℕ) (o : OrderTold v before after n) where
  order_is : take n after ≡ o.order
  order_is = ap (take n) o.list ∙ take_at o.order (drop (length o.order) before) n (sym o.counted)

  beyond_is : drop n after ≡ drop n before
  beyond_is =
      ap (drop n) o.list ∙ drop_at o.order (drop (length o.order) before) n (sym o.counted)
      ∙ ap (λ (k : ℕ). drop k before) (sym o.counted)

told_settled :
    (v : View) (before after after' : List ℕ) (r r' : Answer) (left left' : Board) → Told v before after r
    → Told v before after' r' → r.number ≡ r'.number → r.serial.0 ≡ r'.serial.0 → left ≡ left'
    → Settled before after after' r r' left left'
told_settled v before after after' r r' left left' p q same serial board =
    record {
      number = same;
      serial = serial;
      board = board;
      equal = λ f. same_told v before after after' r r' same serial p q (λ e e'. absurd (f e));
      chosen = λ h.
          same_told v before after after' r r' same serial p q
          (λ e e'.
          sym (order_is v before after r.length (p.red e)) ∙ h
          ∙ order_is v before after' r'.length (q.red e'));
      beyond = λ e. (
        beyond_is v before after r.length (p.red e),
        beyond_is v before after' r'.length (q.red (sym same ∙ e)),
      );
    }

-- ---- a call

module _
    (checks : List Check) (b : Board) (v : View) (serial : ℕ) (before after after' : List ℕ) (r r' : Answer)
    (left left' : Board) (p : Called checks b v serial before after r left)
    (q : Called checks b v serial before after' r' left')
  where
    same_number : r.number ≡ r'.number
    same_number = same_answer checks r.number r'.number p.number q.number

    same_end : (left ≡ left') × (r.serial.0 ≡ r'.serial.0)
    same_end =
        by_test
        (eqb r.number answer.done)
        (λ t.
        let e = eqb-true r.number answer.done t in
        let one = p.accepted e in
        let other = q.accepted (sym same_number ∙ e) in
        (one.0 ∙ sym other.0, one.1 ∙ sym other.1))
        (λ f.
        let d = eqb-false r.number answer.done f in
        let one = p.refused d in
        let other = q.refused (λ e. d (same_number ∙ e)) in
        (one.0 ∙ sym other.0, one.1 ∙ sym other.1))

    pub called_settled : Settled before after after' r r' left left'
    called_settled =
        told_settled v before after after' r r' left left' p.told q.told same_number same_end.1
        same_end.0

-- Two outcomes of one call that keep its promise are equal, except for the choice of failing order, free
-- among true ones.
pub call_settled :
    (b : Board) (call : Call) (after after' : List ℕ) (r r' : Answer) (left left' : Board)
    → Keeps b call r left after → Keeps b call r' left' after'
    → Settled (lent call) after after' r r' left left'
call_settled b (open_file before s) after after' r r' left left' j k =
    called_settled (open_checks s (length before)) smallest_board (said s) 0 before after after' r r' left left'
    (open_called s before after (record { answer = r; board = left }) j)
    (open_called s before after' (record { answer = r'; board = left' }) k)
call_settled b (admit before q) after after' r r' left left' j k =
    called_settled (admit_checks b (length before) q) b (after_admit b q) b.next.0 before after after' r r'
    left left' j k
call_settled b (act before q) after after' r r' left left' j k =
    called_settled (act_checks b (length before) q) b (after_act b q) 0 before after after' r r' left left' j k
call_settled b (do_duty q) after after' r r' left left' j k =
    rw (j.1, k.1) (called_settled (do_checks b q) b (after_do b q) 0 [] [] [] r r' left left' j.0 k.0)
call_settled b (withdraw before q) after after' r r' left left' j k =
    called_settled (withdraw_checks b (length before) q) b (after_withdraw b q) 0 before after after' r r' left
    left' j k
call_settled b (check before) after after' r r' left left' j k =
    let checks = check_checks b (length before) in
    let number = same_answer checks r.number r'.number j.0.number k.0.number in
    told_settled (view b) before after after' r r' left left' j.0.told k.0.told number
    (j.0.serial ∙ sym k.0.serial) (j.1 ∙ sym k.1)
call_settled b (save before) after after' r r' left left' j k =
    let same = same_save b before after after' r r' j.0 k.0 in
    record {
      number = ap (λ (a : Answer). a.number) same.0;
      serial = ap (λ (a : Answer). a.serial.0) same.0;
      board = j.1 ∙ sym k.1;
      equal = λ f. same;
      chosen = λ h. same;
      beyond = λ e.
          absurd
          (never_answered answer.red (save_checks b (length before)) r.number (λ q. omega arith) refl
          j.0.number e);
    }
call_settled b (walk before) after after' r r' left left' j k =
    let same = same_walk b before after after' r r' j.0 k.0 in
    let number = ap (λ (a : Answer). a.number) same.0 in
    record {
      number = number;
      serial = ap (λ (a : Answer). a.serial.0) same.0;
      board = j.1 ∙ sym k.1;
      equal = λ f. same;
      chosen = λ h. same;
      beyond = λ e. (
        beyond_is (view b) before after r.length ((walk_told b before after r j.0).red e),
        beyond_is (view b) before after' r'.length
            ((walk_told b before after' r' k.0).red (sym number ∙ e)),
      );
    }
