-- Worthless boards keep no promise. Whatever keeps check's promise answers each marked case by its verdict:
-- so it is not always red (case 2), not always green (case 3), and does not wave through the duties after the
-- first (case 5). Whatever keeps do's promise accepts the first duty of case 2, and an accepted do has
-- changed the board.
use mathlib.Core.Path.{◌≡◌, refl, sym, ap, subst, ◌∙◌}
use mathlib.Core.Bool.{Bool, true, ◌&&◌}
use mathlib.Core.List.{List, [], ◌∷◌}
use Prim.Native.Nat.{ℕ, ◌≤◌}
use native.Mathlib.Omega.{arith}
use lib.Dec.{eqb}
use lib.ListN.{length}
use borrow.Author.Tests.{eqb-true, eq-eqb, le-ltb}
use Rattle.orders.specs.Lists.{Mem, here, there, all}
use Rattle.orders.specs.Orders.{Order}
use Rattle.orders.proofs.Lists.{all_mem, at_cons, keep_mem}
use Rattle.orders.proofs.Tests.{and_left, and_right, clash, not_true}
use Rattle.board.specs.declared.Answer.{Answer}
use Rattle.board.specs.declared.Board.{Board}
use Rattle.board.specs.declared.Counts.{Counts}
use Rattle.board.specs.After.{named}
use Rattle.board.specs.Cases.{Verdict, green, red, Says, Row, cases, usual, nothing, G, U}
use Rattle.board.specs.Good.{counts_fit, records_fit}
use Rattle.board.specs.Green.{Green, FailingOrder, world_of}
use Rattle.board.specs.Limits.{max_duties}
use Rattle.board.specs.Numbers as answer
use Rattle.board.specs.Open.{NotOpen}
use Rattle.board.specs.Saying.{board_saying}
use Rattle.board.specs.View.{View, view}
use Rattle.board.specs.Answers.{NoneApplies}
use Rattle.board.proofs.CasesHold.{cases_hold}
use Rattle.board.proofs.InRange.{CountsInRange, counts→range}
use Rattle.board.proofs.SayingLaws.{ViewFits, saying_sized, saying_good, view_saying}
use Rattle.requests.specs.declared.RequestDo.{RequestDo}
use Rattle.verdict.specs.Checked.{Checked}
use Rattle.do_duty.specs.Does.{after_do, do_checks, Does}
use Rattle.promises.specs.Calls.{do_duty}
use Rattle.promises.specs.GoodAndGreen.{Whole, GoodAndGreen}
use Rattle.promises.specs.InTurn.{NoneOver, earliest_do}
use Rattle.promises.specs.Judged.{Judged}
use Rattle.promises.proofs.AfterCalls.{after_fits}
use Rattle.promises.proofs.CarriedOut.{all_done}
use Rattle.promises.proofs.Denied.{check_judged}
use Rattle.promises.proofs.Kept.{done→none}

-- ---- the marked cases as board values

abbrev counts_of : View → Counts
counts_of v =
    record {
      users = v.users;
      roles = v.roles;
      permissions = length v.permissions;
      rules = length v.rules;
      duties = length v.duties;
    }

-- a test that computes: in range, with room, by the rules
abbrev says_right : View → Bool
says_right v = counts_fit (counts_of v) v.next && (eqb (length v.holdings) v.users && records_fit v)

right_fits : (v : View) → says_right v ≡ true → ViewFits v
right_fits v e =
    let n : CountsInRange (counts_of v) v.next = counts→range (counts_of v) v.next (search and_left) in
    record {
      one_user = n.one_user;
      users = n.users;
      one_role = n.one_role;
      roles = n.roles;
      permissions = n.permissions;
      rules = n.rules;
      duties = n.duties;
      serial = n.serial;
      most = n.most;
      held = eqb-true (length v.holdings) v.users (search (and_left, and_right));
      records = search (and_left, and_right);
    }

every_right : all (λ row. says_right row.board) cases ≡ true
every_right = refl

case_fits : (row : Row) → Mem row cases → ViewFits row.board
case_fits row m = right_fits row.board (all_mem (λ row. says_right row.board) {l = cases} every_right m)

-- ---- check: always red, always green, the first duty only

-- the number for a verdict
abbrev pub number_of : Verdict → ℕ
number_of green = answer.done
number_of (red serials) = answer.red

-- Each marked case is answered by its verdict.
pub case_answered :
    (row : Row) → Mem row cases → (before after : List ℕ) (r : Answer) → max_duties ≤ length before
    → Checked (board_saying row.board) before after r → r.number ≡ number_of row.verdict
case_answered row m before after r room c = go row.verdict (cases_hold row m).1
  where
    fits : ViewFits row.board
    fits = case_fits row m

    is : row.board ≡ view (board_saying row.board)
    is = sym (view_saying row.board fits)

    judged : Judged (view (board_saying row.board)) before after r
    judged =
        check_judged (board_saying row.board) before after r
        (λ e. clash (saying_good row.board fits) e, (λ h. omega arith, tt)) c

    go : (verdict : Verdict) → Says row.board verdict → r.number ≡ number_of verdict
    go green g = judged.accepted.1 (subst Green is g)
    go (red serials) f = judged.denied.1 (serials, subst (λ (v : View). FailingOrder v serials) is f)

-- ---- do: refuses every call

abbrev case2 : View
case2 = usual nothing (G 1 7 9 ∷ U 2 12 20 ∷ [])

-- case 2 as a board value
abbrev pub board2 : Board
board2 = board_saying case2

fits2 : ViewFits case2
fits2 = case_fits _ (there (here refl))

says2 : view board2 ≡ case2
says2 = view_saying case2 fits2

right2 : GoodAndGreen board2
right2 =
    record {
      whole = record { sized = saying_sized case2 fits2; is_good = saying_good case2 fits2 };
      green = subst Green (sym says2) (cases_hold _ (there (here refl))).1;
    }

open2 : NoneOver board2
open2 d m =
    let clock = ap (λ (v : View). v.clock) says2 in le-ltb d.end board2.clock (omega arith)

order2 : Order (world_of (view board2)) (view board2).duties (G 1 7 9 ∷ U 2 12 20 ∷ [])
order2 =
    subst
    (λ (v : View). Order (world_of v) v.duties (G 1 7 9 ∷ U 2 12 20 ∷ []))
    (sym says2)
    (record {
      every = λ d m. m;
      only = λ d m. m;
      spaced = (
        λ y m. at_cons (λ q. rw q (λ e. omega arith, refl)) (λ n. elim n [ ]) m,
        (λ y m. elim m [ ], tt),
      );
    })

-- The first duty of case 2, done at its earliest minute, is accepted.
pub not_refused :
    (r : Answer) (left : Board) → Does board2 (earliest_do board2 (G 1 7 9)) r left → r.number ≡ answer.done
not_refused r left k = (all_done board2 right2 open2 (G 1 7 9 ∷ U 2 12 20 ∷ []) order2 r left k).0

-- ---- do: accepts calls and changes nothing

-- After an accepted do no open duty has the serial, and one had it before.
pub not_unchanged :
    (b : Board) → Whole b → (q : RequestDo) (r : Answer) (left : Board) → Does b q r left
    → r.number ≡ answer.done → left ≡ b → ⊥
not_unchanged b w q r left k e same =
    none.1.1.0 (subst (λ (c : Board). NotOpen (view c) q.serial.0) same gone)
  where
    none : NoneApplies (do_checks b q)
    none = done→none (do_checks b q) b (after_do b q) 0 [] [] r left refl k e

    says : view left ≡ after_do b q
    says = ap view (k.accepted e).0 ∙ view_saying (after_do b q) (after_fits b w (do_duty q) none)

    gone : NotOpen (view left) q.serial.0
    gone d m s =
        let kept = (keep_mem _ (view b).duties (subst (λ (v : View). Mem d v.duties) says m)).1 in
        clash (eq-eqb q.serial.0 d.serial.0 (sym s)) (not_true (named q.serial.0 d) kept)
