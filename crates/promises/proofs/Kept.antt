-- A call on a live board leaves, accepted, the board value that says what its promise names; refused, the one
-- that it was given or, after an open, the smallest. So what holds over any calls is stated once.
use mathlib.Core.Path.{◌≡◌, refl, sym, subst, ◌∙◌}
use mathlib.Core.List.{List, []}
use Prim.Native.Nat.{ℕ}
use lib.Dec.{eqb}
use lib.ListN.{length}
use borrow.Author.Tests.{eqb-true, eqb-false}
use Rattle.orders.proofs.Tests.{by_test}
use Rattle.board.specs.declared.Answer.{Answer}
use Rattle.board.specs.declared.Board.{Board}
use Rattle.board.specs.Answers.{Check, Answers, NoneApplies}
use Rattle.board.specs.Called.{Called}
use Rattle.board.specs.Filler.{smallest_board}
use Rattle.board.specs.Numbers as answer
use Rattle.board.specs.Saying.{board_saying}
use Rattle.board.specs.View.{View, view}
use Rattle.board.proofs.AnswersLaws.{Refusing, done_none}
use Rattle.board.proofs.SayingLaws.{saying_view}
use Rattle.file.specs.Reads.{board_of}
use Rattle.file.proofs.Accepted.{accepted_sized, accepted_good}
use Rattle.save.specs.Saves.{save_checks}
use Rattle.verdict.specs.Checked.{check_checks}
use Rattle.plain.specs.Walks.{walk_checks}
use Rattle.open.specs.Opens.{said, open_checks, Opened, Opens}
use Rattle.open.proofs.Tick.{open_ticks}
use Rattle.admit.specs.Admits.{after_admit, admit_checks}
use Rattle.act.specs.ActsNow.{after_act, act_checks}
use Rattle.do_duty.specs.Does.{after_do, do_checks}
use Rattle.withdraw.specs.Withdraws.{after_withdraw, withdraw_checks}
use Rattle.promises.specs.Calls.{
  Call,
  open_file,
  admit,
  act,
  do_duty,
  withdraw,
  check,
  save,
  walk,
  Keeps,
  refused_board,
}

abbrev pub checks_of : Board → Call → List Check
checks_of b (open_file before s) = open_checks s (length before)
checks_of b (admit before q) = admit_checks b (length before) q
checks_of b (act before q) = act_checks b (length before) q
checks_of b (do_duty q) = do_checks b q
checks_of b (withdraw before q) = withdraw_checks b (length before) q
checks_of b (check before) = check_checks b (length before)
checks_of b (save before) = save_checks b (length before)
checks_of b (walk before) = walk_checks b (length before)

-- what the board says after the call, if it is accepted; check, save and walk only read it
abbrev pub after_call : Board → Call → View
after_call b (open_file before s) = said s
after_call b (admit before q) = after_admit b q
after_call b (act before q) = after_act b q
after_call b (do_duty q) = after_do b q
after_call b (withdraw before q) = after_withdraw b q
after_call b (check before) = view b
after_call b (save before) = view b
after_call b (walk before) = view b

-- what holds of the smallest board and of the one given holds of what a refused call leaves
pub of_refused :
    (P : Board → Type 0) (b : Board) (call : Call) → P smallest_board → P b → P (refused_board b call)
of_refused P b (open_file before s) small same = small
of_refused P b (admit before q) small same = same
of_refused P b (act before q) small same = same
of_refused P b (do_duty q) small same = same
of_refused P b (withdraw before q) small same = same
of_refused P b (check before) small same = same
of_refused P b (save before) small same = same
of_refused P b (walk before) small same = same

-- What open promises is what a call on the smallest board would: refused, that is left.
pub open_called :
    (s before after : List ℕ) (o : Opened) → Opens s before after o
    → Called (open_checks s (length before)) smallest_board (said s) 0 before after o.answer o.board
open_called s before after o p =
    record {
      number = p.number;
      accepted = λ e.
          let read = ((open_ticks s before after o p).0 e).read in (
            p.accepted e ∙ sym (saying_view (board_of s) (accepted_sized s read) (accepted_good s read)),
            p.serial,
          );
      refused = λ f. (p.refused f, p.serial);
      told = p.told;
    }

-- what holds of the board value left: accepted, no check applied and it says what the promise names; refused,
-- it is the one given
module _
    (checks : List Check) (b : Board) (v : View) (serial : ℕ) (before after : List ℕ) (r : Answer)
    (left : Board) (refuses : Refusing checks) (c : Called checks b v serial before after r left)
  where
    pub done→none : r.number ≡ answer.done → NoneApplies checks
    done→none e = done_none checks refuses (subst (Answers checks) e c.number)

    either_way : (P : Board → Type 0) → (NoneApplies checks → P (board_saying v)) → P b → P left
    either_way P accepted refused =
        by_test
        (eqb r.number answer.done)
        (λ t.
        let e = eqb-true r.number answer.done t in
        subst P (sym (c.accepted e).0) (accepted (done→none e)))
        (λ f. subst P (sym (c.refused (eqb-false r.number answer.done f)).0) refused)

pub kept :
    (b : Board) (call : Call) (r : Answer) (left : Board) (after : List ℕ) → Keeps b call r left after
    → (P : Board → Type 0) → (NoneApplies (checks_of b call) → P (board_saying (after_call b call)))
    → P (refused_board b call) → P left
kept b (open_file before s) r left after k =
    either_way (open_checks s (length before)) smallest_board (said s) 0 before after r left refl
    (open_called s before after (record { answer = r; board = left }) k)
kept b (admit before q) r left after k =
    either_way (admit_checks b (length before) q) b (after_admit b q) b.next.0 before after r left refl k
kept b (act before q) r left after k =
    either_way (act_checks b (length before) q) b (after_act b q) 0 before after r left refl k
kept b (do_duty q) r left after k = either_way (do_checks b q) b (after_do b q) 0 [] [] r left refl k.0
kept b (withdraw before q) r left after k =
    either_way (withdraw_checks b (length before) q) b (after_withdraw b q) 0 before after r left refl k
kept b (check before) r left after k = λ P accepted refused. subst P (sym k.1) refused
kept b (save before) r left after k = λ P accepted refused. subst P (sym k.1) refused
kept b (walk before) r left after k = λ P accepted refused. subst P (sym k.1) refused
