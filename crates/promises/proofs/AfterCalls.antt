-- What the board says after an accepted call keeps the rules and has room; and it is green if the board was.
-- After a duty was done that follows from the theory, since no open duty is wholly before it; after an open,
-- an admission, an act and a withdrawal from the check of 8.
use mathlib.Core.Path.{◌≡◌, refl, sym}
use mathlib.Core.Bool.{true}
use mathlib.Core.List.{List, [], ◌∷◌}
use mathlib.Core.Logic.{⊎_elim}
use lib.ListN.{length}
use Prim.Native.Nat.{ℕ}
use borrow.Author.Tests.{eqb-true, eq-eqb}
use Rattle.orders.specs.Walks.{Next}
use Rattle.orders.specs.Lists.{Mem}
use Rattle.orders.proofs.Lists.{any_false, find_case, mid}
use Rattle.orders.proofs.Tests.{clash, is_false}
use Rattle.board.specs.declared.Board.{Board}
use Rattle.board.specs.declared.Duty.{Duty}
use Rattle.board.specs.After.{named}
use Rattle.board.specs.Answers.{Check, check, NoneApplies}
use Rattle.board.specs.Filler.{Sized}
use Rattle.board.specs.Green.{Green, Red, world_of}
use Rattle.board.specs.Numbers as answer
use Rattle.board.specs.Open.{NotOpen, OpenWith}
use Rattle.board.specs.View.{View, view}
use Rattle.board.specs.Windows.{wholly_before}
use Rattle.board.proofs.AnswersLaws.{none_first, none_second, then_second}
use Rattle.board.proofs.GreenLaws.{green_not_red}
use Rattle.board.proofs.SayingLaws.{ViewFits, view_fits}
use Rattle.file.specs.Reads.{read_checks, board_of}
use Rattle.file.proofs.Accepted.{accepted_sized, accepted_good}
use Rattle.open.specs.Opens.{said, open_checks}
use Rattle.requests.specs.declared.RequestAdmit.{RequestAdmit}
use Rattle.requests.specs.declared.RequestDo.{RequestDo}
use Rattle.after.proofs.FitsLaws.{did_fits}
use Rattle.admit.specs.Admits.{after_admit, admit_earlier}
use Rattle.admit.proofs.Admitting as admitting
use Rattle.act.specs.ActsNow.{after_act, act_earlier}
use Rattle.act.proofs.Acting as acting
use Rattle.do_duty.specs.Does.{HeldBack, do_checks}
use Rattle.withdraw.specs.Withdraws.{after_withdraw, withdraw_earlier}
use Rattle.withdraw.proofs.Withdrawing as withdrawing
use Rattle.promises.specs.Calls.{
  Call,
  open_file,
  admit,
  act,
  do_duty,
  withdraw,
  check as checks,
  save,
  walk,
}
use Rattle.promises.specs.GoodAndGreen.{Whole, GoodAndGreen}
use Rattle.promises.proofs.DidLaws.{did_green}
use Rattle.promises.proofs.Kept.{checks_of, after_call}

pub whole_fits : (b : Board) → Whole b → ViewFits (view b)
whole_fits b w = view_fits b w.sized w.is_good

-- ---- it keeps the rules and has room

abbrev pub red_check : View → List Check
red_check v = check answer.red (Red v) ∷ []

pub admit_fits :
    (b : Board) → Sized b → (before : List ℕ) (q : RequestAdmit)
    → NoneApplies (admit_earlier b (length before) q) → ViewFits (after_admit b q)
admit_fits b size before q none =
    let earlier = admit_earlier b (length before) q in
    admitting.fits_after b before q size (then_second earlier [] answer.done none refl)

-- what an accepted file says
open_fits :
    (s : List ℕ) (room : ℕ) → NoneApplies (open_checks s room) → ViewFits (said s)
open_fits s room none =
    let read = none_first (read_checks s) (red_check (said s)) none.1 in
    view_fits (board_of s) (accepted_sized s read) (accepted_good s read)

pub after_fits :
    (b : Board) → Whole b → (call : Call) → NoneApplies (checks_of b call) → ViewFits (after_call b call)
after_fits b w (open_file before s) none = open_fits s (length before) none
after_fits b w (admit before q) none =
    let past = none_first (admit_earlier b (length before) q) (red_check (after_admit b q)) none in
    admit_fits b w.sized before q past
after_fits b w (act before q) none =
    let past = none_first (act_earlier b (length before) q) (red_check (after_act b q)) none in
    acting.fits_after b w.sized (length before) q past
after_fits b w (do_duty q) none = did_fits (view b) (whole_fits b w) q.clock q.serial.0
after_fits b w (withdraw before q) none =
    let past = none_first (withdraw_earlier b (length before) q) (red_check (after_withdraw b q)) none in
    withdrawing.fits_after b w.sized (length before) q past
after_fits b w (checks before) none = whole_fits b w
after_fits b w (save before) none = whole_fits b w
after_fits b w (walk before) none = whole_fits b w

-- ---- it is green

-- where some open duty has this serial, the duty that has it
pub named_open :
    (v : View) (serial : ℕ) → (NotOpen v serial → ⊥)
    → (d : Duty) × Mem d v.duties × (d.serial.0 ≡ serial)
named_open v serial some =
    ⊎_elim
    (λ n. absurd (some (λ d m e. clash (eq-eqb serial d.serial.0 (sym e)) (any_false _ n.missed m))))
    (λ f. (
      f.x,
      rw f.is (mid f.earlier f.later),
      sym (eqb-true serial f.x.serial.0 f.passes),
    ))
    (find_case (named serial) v.duties)

-- the open duty that do names: no open duty is wholly before it
record NextNamed (b : Board) (serial : ℕ) : Type 0 where
  duty : Duty
  has_serial : duty.serial.0 ≡ serial
  next : Next (world_of (view b)) (view b).duties duty

module _ (b : Board) (q : RequestDo) (none : NoneApplies (do_checks b q)) where
  named_next : (d : Duty) → Mem d (view b).duties → d.serial.0 ≡ q.serial.0 → NextNamed b q.serial.0
  named_next d m e =
      record {
        duty = d;
        has_serial = e;
        next =
            record {
              open_d = m;
              free = λ y n. is_false (wholly_before y d) (λ t. none.1.1.1.1.0 (held y n t));
            };
      }
    where
      held :
          (y : Duty) → Mem y (view b).duties → wholly_before y d ≡ true
          → OpenWith (view b) q.serial.0 (HeldBack (view b))
      held y n t =
          record {
            duty = d;
            open_duty = m;
            has_serial = e;
            holds = record { other = y; open_other = n; before = t };
          }

  next_named : NextNamed b q.serial.0
  next_named =
      let found = named_open (view b) q.serial.0 none.1.1.0 in
      named_next found.0 found.1 found.2

pub after_green :
    (b : Board) → GoodAndGreen b → (call : Call) → NoneApplies (checks_of b call) → Green (after_call b call)
after_green b g (do_duty q) none =
    let n = next_named b q none in
    let fits = whole_fits b g.whole in
    rw (← n.has_serial) (did_green (view b) fits q.clock n.duty n.next g.green)
after_green b g (checks before) none = g.green
after_green b g (save before) none = g.green
after_green b g (walk before) none = g.green
after_green b g (open_file before s) none =
    green_not_red (said s) (open_fits s (length before) none).records
    (none_second (read_checks s) (red_check (said s)) none.1).0
after_green b g (admit before q) none =
    let fits = after_fits b g.whole (admit before q) none in
    green_not_red (after_admit b q) fits.records
    (none_second (admit_earlier b (length before) q) (red_check (after_admit b q)) none).0
after_green b g (act before q) none =
    let fits = after_fits b g.whole (act before q) none in
    green_not_red (after_act b q) fits.records
    (none_second (act_earlier b (length before) q) (red_check (after_act b q)) none).0
after_green b g (withdraw before q) none =
    let fits = after_fits b g.whole (withdraw before q) none in
    green_not_red (after_withdraw b q) fits.records
    (none_second (withdraw_earlier b (length before) q) (red_check (after_withdraw b q)) none).0
