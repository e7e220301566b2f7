-- What a call leaves is what document 01's sentences say (specs/Accepted.antt): of whatever keeps the promise
-- of a call. The idea: an accepted call leaves a board that says what its promise names, so each sentence is
-- one field of that; a refused one leaves what it was given.
use mathlib.Core.Path.{◌≡◌, refl, sym, ap, subst, ◌∙◌}
use mathlib.Core.Logic.{◌≢◌, inr}
use mathlib.Core.Bool.{Bool, true, not}
use mathlib.Core.List.{List, [], ◌++◌}
use Prim.Native.Nat.{ℕ}
use native.Mathlib.Omega.{arith}
use lib.ListN.{length}
use borrow.Author.Tests.{eqb-false, ne_eqb}
use Rattle.orders.specs.Lists.{Mem}
use Rattle.orders.proofs.Lists.{keep_mem, keep_in}
use Rattle.orders.proofs.Tests.{not_true, not_of_false}
use Rattle.board.specs.declared.Answer.{Answer}
use Rattle.board.specs.declared.Board.{Board}
use Rattle.board.specs.declared.Duty.{Duty}
use Rattle.board.specs.declared.What.{What}
use Rattle.board.specs.After.{with_serial, named, without_serial, withdrawn, did}
use Rattle.board.specs.Answers.{Check, NoneApplies}
use Rattle.board.specs.Called.{Called}
use Rattle.board.specs.Filler.{Sized}
use Rattle.board.specs.Good.{what_fits}
use Rattle.board.specs.Green.{Green, Red}
use Rattle.board.specs.Numbers as answer
use Rattle.board.specs.Permitted.{Holding, held_in, changed}
use Rattle.board.specs.Sentences.{Change}
use Rattle.board.specs.View.{View, view}
use Rattle.board.proofs.AnswersLaws.{Refusing, none_first, none_second}
use Rattle.board.proofs.Changed.{after_is}
use Rattle.board.proofs.GoodLaws.{records→range}
use Rattle.board.proofs.GreenLaws.{green_not_red}
use Rattle.board.proofs.SayingLaws.{ViewFits, view_fits, view_saying}
use Rattle.permitted.proofs.Laws.{changed_holdings}
use Rattle.requests.specs.declared.RequestAct.{RequestAct}
use Rattle.requests.specs.declared.RequestAdmit.{RequestAdmit}
use Rattle.requests.specs.declared.RequestDo.{RequestDo}
use Rattle.requests.specs.declared.RequestWithdraw.{RequestWithdraw}
use Rattle.requests.specs.Requests.{asked}
use Rattle.admit.specs.Admits.{after_admit, admit_earlier, Admits}
use Rattle.act.specs.ActsNow.{what_now, after_act, act_earlier, ActsNow}
use Rattle.do_duty.specs.Does.{after_do, do_checks, Does}
use Rattle.withdraw.specs.Withdraws.{after_withdraw, withdraw_earlier, Withdraws}
use Rattle.promises.specs.Accepted.{
  Refused,
  Removed,
  Adds,
  Changes,
  Fulfils,
  Removes,
  AdmitAccepted,
  ActAccepted,
  DoAccepted,
  WithdrawAccepted,
  Denied,
}
use Rattle.promises.specs.Calls.{
  Call,
  open_file,
  admit,
  act,
  do_duty,
  withdraw,
  check as checks,
  save,
  walk,
  Keeps,
}
use Rattle.promises.specs.GoodAndGreen.{Whole}
use Rattle.promises.specs.May.{MayAdmit, MayAct, MayDo, MayWithdraw}
use Rattle.promises.proofs.AfterCalls.{red_check, after_fits}
use Rattle.promises.proofs.AsksLaws.{asks_fit}
use Rattle.promises.proofs.DidLaws.{finds}
use Rattle.promises.proofs.Kept.{done→none}
use Rattle.promises.proofs.May.{
  admit_passed,
  act_passed,
  do_passed,
  withdraw_passed,
  past_earlier,
}

-- ---- refused

-- A refused call leaves the board untouched, clock included; a refused open gives the smallest board.
pub call_refused :
    (b : Board) (call : Call) (r : Answer) (left : Board) (after : List ℕ) → Keeps b call r left after
    → r.number ≢ answer.done → Refused b call r left after
call_refused b (open_file before s) r left after k f =
    record { board = k.refused f; serial = k.serial; list = k.told.otherwise }
call_refused b (admit before q) r left after k f =
    record { board = (k.refused f).0; serial = (k.refused f).1; list = k.told.otherwise }
call_refused b (act before q) r left after k f =
    record { board = (k.refused f).0; serial = (k.refused f).1; list = k.told.otherwise }
call_refused b (do_duty q) r left after k f =
    record {
      board = (k.0.refused f).0;
      serial = (k.0.refused f).1;
      list = λ n. (k.1, (k.0.told.otherwise n).1);
    }
call_refused b (withdraw before q) r left after k f =
    record { board = (k.refused f).0; serial = (k.refused f).1; list = k.told.otherwise }
call_refused b (checks before) r left after k f =
    record { board = k.1; serial = k.0.serial; list = k.0.told.otherwise }
call_refused b (save before) r left after k f =
    record { board = k.1; serial = k.0.serial; list = λ n. k.0.refused f }
call_refused b (walk before) r left after k f =
    record { board = k.1; serial = k.0.serial; list = k.0.otherwise }

-- ---- what the promises name is the change that the sentences say

-- what is done changes just what the sentence says
changed_so :
    (v : View) → ViewFits v → (what : What) → what_fits v.users v.roles what ≡ true
    → Change (held_in v.holdings) what (held_in (changed v.holdings what))
changed_so v fits what fit =
    subst (λ (after : Holding → Bool). Change (held_in v.holdings) what after)
    (sym (changed_holdings v.permissions v.rules v.holdings v.users v.roles
    (omega (arith, fits.held)) fits.roles what fit))
    (after_is v (held_in v.holdings)
    (record { serial = record { 0 = 0 }; doer = 0; what = what; start = 0; end = 0 }))

-- and so does the duty that was done
done_so :
    (v : View) → ViewFits v → (clock : ℕ) (d : Duty) → Mem d v.duties
    → Change (held_in v.holdings) d.what (held_in (did v clock d.serial.0).holdings)
done_so v fits clock d m =
    rw (finds v fits d m)
    (changed_so v fits d.what ((records→range v fits.records).duties.each d m).what)

-- a duty is kept exactly if it was there and has another serial
removed_so : (serial : ℕ) (v w : View) → w.duties ≡ without_serial serial v.duties → Removed serial v w
removed_so serial v w is d = (
  λ m.
      let kept = keep_mem other v.duties (subst (Mem d) is m) in
      (kept.0, λ q. eqb-false serial d.serial.0 (not_true (named serial d) kept.1) (sym q)),
  λ p.
      subst (Mem d) (sym is)
      (keep_in other p.0
      (not_of_false (named serial d) (ne_eqb serial d.serial.0 (λ q. p.1 (sym q))))),
)
  where
    other : Duty → Bool
    other x = not (named serial x)

added_so :
    (b : Board) (q : RequestAdmit)
    → Adds (view b) q (with_serial b.next.0 (asked q)) (after_admit b q)
added_so b q =
    record {
      alone = record { clock_is = refl; users = refl; roles = refl; permissions = refl; rules = refl };
      duties = refl;
      serial = refl;
      next = refl;
      doer = refl;
      start = refl;
      end = refl;
      holdings = refl;
    }

acted_so :
    (b : Board) → Sized b → (room : ℕ) (q : RequestAct) → MayAct b room q (what_now q)
    → Changes (view b) q.clock (what_now q) (after_act b q)
acted_so b size room q may =
    record {
      alone = record { clock_is = refl; users = refl; roles = refl; permissions = refl; rules = refl };
      change =
          changed_so (view b) (view_fits b size may.is_good) (what_now q)
          (asks_fit (view b) q.action q.first q.second (what_now q) may.asks);
      duties = refl;
      next = refl;
    }

did_so :
    (b : Board) → Sized b → (q : RequestDo) (d : Duty) → MayDo b q d
    → Fulfils (view b) q.clock d (after_do b q)
did_so b size q d may =
    rw (← may.has_serial)
    (record {
      alone = record { clock_is = refl; users = refl; roles = refl; permissions = refl; rules = refl };
      change = done_so (view b) (view_fits b size may.is_good) q.clock d may.open_duty;
      removed = removed_so d.serial.0 (view b) (did (view b) q.clock d.serial.0) refl;
      next = refl;
    })

withdrawn_so :
    (b : Board) (room : ℕ) (q : RequestWithdraw) (d : Duty) → MayWithdraw b room q d
    → Removes (view b) q.clock d (after_withdraw b q)
withdrawn_so b room q d may =
    rw (← may.has_serial)
    (record {
      alone = record { clock_is = refl; users = refl; roles = refl; permissions = refl; rules = refl };
      removed = removed_so d.serial.0 (view b) (withdrawn (view b) q.clock d.serial.0) refl;
      holdings = refl;
      next = refl;
    })

-- ---- accepted

-- the board left says what the promise names, and the list is untouched
module _
    {checks : List Check} {b : Board} {v : View} {serial : ℕ} {before after : List ℕ} {r : Answer}
    {left : Board} (c : Called checks b v serial before after r left) (e : r.number ≡ answer.done)
  where
    says : ViewFits v → view left ≡ v
    says fits = ap view (c.accepted e).0 ∙ view_saying v fits

    left_says : ViewFits v → (Says : View → Type 0) → Says v → Says (view left)
    left_says fits Says = subst Says (sym (says fits))

    -- the verdict did not deny it
    left_green : ViewFits v → (Red v → ⊥) → Green (view left)
    left_green fits not_red = left_says fits Green (green_not_red v fits.records not_red)

    untouched : (after ≡ before) × (r.length ≡ 0)
    untouched = c.told.otherwise (λ n. omega (arith, e, n))

-- and of a call that the verdict judges, no check before it applied, and it did not deny it
module _
    (earlier : List Check) {b : Board} {v : View} {serial : ℕ} {before after : List ℕ} {r : Answer}
    {left : Board} (refuses : Refusing (earlier ++ red_check v))
    (c : Called (earlier ++ red_check v) b v serial before after r left) (e : r.number ≡ answer.done)
  where
    none : NoneApplies (earlier ++ red_check v)
    none = done→none (earlier ++ red_check v) b v serial before after r left refuses c e

    past : NoneApplies earlier
    past = none_first earlier (red_check v) none

    not_red : Red v → ⊥
    not_red = (none_second earlier (red_check v) none).0

-- An accepted admission: the clock, the duty with the next serial, and nothing else.
pub admit_accepted :
    (b : Board) → Sized b → (before after : List ℕ) (q : RequestAdmit) (r : Answer) (left : Board)
    → Admits b before q r left after → r.number ≡ answer.done → AdmitAccepted b before q r left after
admit_accepted b size before after q r left k e =
    let earlier = admit_earlier b (length before) q in
    let may = admit_passed b size (length before) q (past earlier refl k e) in
    let whole : Whole b = record { sized = size; is_good = may.is_good } in
    let fits = after_fits b whole (admit before q) (none earlier refl k e) in
    record {
      added = with_serial b.next.0 (asked q);
      may = may;
      adds = left_says k e fits (Adds (view b) q (with_serial b.next.0 (asked q))) (added_so b q);
      green = left_green k e fits (not_red earlier refl k e);
      serial = (k.accepted e).1;
      list = untouched k e;
    }

-- An accepted act: the clock, the change, and nothing else.
pub act_accepted :
    (b : Board) → Sized b → (before after : List ℕ) (q : RequestAct) (r : Answer) (left : Board)
    → ActsNow b before q r left after → r.number ≡ answer.done → ActAccepted b before q r left after
act_accepted b size before after q r left k e =
    let earlier = act_earlier b (length before) q in
    let may = act_passed b (length before) q (past earlier refl k e) in
    let whole : Whole b = record { sized = size; is_good = may.is_good } in
    let fits = after_fits b whole (act before q) (none earlier refl k e) in
    record {
      what = what_now q;
      may = may;
      changes =
          left_says k e fits (Changes (view b) q.clock (what_now q))
          (acted_so b size (length before) q may);
      green = left_green k e fits (not_red earlier refl k e);
      serial = (k.accepted e).1;
      list = untouched k e;
    }

-- An accepted do: the clock, the duty's change, the duty removed, and nothing else.
pub do_accepted :
    (b : Board) → Sized b → (q : RequestDo) (r : Answer) (left : Board) → Does b q r left
    → r.number ≡ answer.done → DoAccepted b q r left
do_accepted b size q r left k e =
    let none = done→none (do_checks b q) b (after_do b q) 0 [] [] r left refl k e in
    let (d, may) = do_passed b size q none in
    let whole : Whole b = record { sized = size; is_good = may.is_good } in
    let fits = after_fits b whole (do_duty q) none in
    record {
      duty = d;
      may = may;
      fulfils = left_says k e fits (Fulfils (view b) q.clock d) (did_so b size q d may);
      serial = (k.accepted e).1;
      no_order = (untouched k e).1;
    }

-- An accepted withdrawal: the clock, the duty removed, and nothing else.
pub withdraw_accepted :
    (b : Board) → Sized b → (before after : List ℕ) (q : RequestWithdraw) (r : Answer) (left : Board)
    → Withdraws b before q r left after → r.number ≡ answer.done
    → WithdrawAccepted b before q r left after
withdraw_accepted b size before after q r left k e =
    let earlier = withdraw_earlier b (length before) q in
    let (d, may) = withdraw_passed b (length before) q (past earlier refl k e) in
    let whole : Whole b = record { sized = size; is_good = may.is_good } in
    let fits = after_fits b whole (withdraw before q) (none earlier refl k e) in
    record {
      duty = d;
      may = may;
      removes =
          left_says k e fits (Removes (view b) q.clock d) (withdrawn_so b (length before) q d may);
      green = left_green k e fits (not_red earlier refl k e);
      serial = (k.accepted e).1;
      list = untouched k e;
    }

-- ---- denied: the board after it, which would say just this, is red

module _ (b : Board) (size : Sized b) (before after : List ℕ) (r : Answer) (left : Board)
    (red : r.number ≡ answer.red) where
  pub admit_denied :
      (q : RequestAdmit) → Admits b before q r left after
      → (added : Duty) × MayAdmit b (length before) q added.what
      × Denied (Adds (view b) q added) before after r
  admit_denied q k =
      let earlier = admit_earlier b (length before) q in
      let past = past_earlier earlier (Red (after_admit b q)) r.number refl refl k.number (inr red) in (
        with_serial b.next.0 (asked q),
        admit_passed b size (length before) q past,
        record { would = after_admit b q; says = added_so b q; order = k.told.red red },
      )

  pub act_denied :
      (q : RequestAct) → ActsNow b before q r left after
      → (what : What) × MayAct b (length before) q what
      × Denied (Changes (view b) q.clock what) before after r
  act_denied q k =
      let earlier = act_earlier b (length before) q in
      let past = past_earlier earlier (Red (after_act b q)) r.number refl refl k.number (inr red) in
      let may = act_passed b (length before) q past in (
        what_now q,
        may,
        record {
          would = after_act b q;
          says = acted_so b size (length before) q may;
          order = k.told.red red;
        },
      )

  pub withdraw_denied :
      (q : RequestWithdraw) → Withdraws b before q r left after
      → (duty : Duty) × MayWithdraw b (length before) q duty
      × Denied (Removes (view b) q.clock duty) before after r
  withdraw_denied q k =
      let earlier = withdraw_earlier b (length before) q in
      let past = past_earlier earlier (Red (after_withdraw b q)) r.number refl refl k.number (inr red) in
      let (d, may) = withdraw_passed b (length before) q past in (
        d,
        may,
        record {
          would = after_withdraw b q;
          says = withdrawn_so b (length before) q d may;
          order = k.told.red red;
        },
      )
