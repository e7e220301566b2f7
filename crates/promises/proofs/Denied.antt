-- The tick agrees with that definition; red carries a true failing order; past the earlier checks a new duty,
-- a withdrawal or a permitted act is denied exactly if the board after it would be red. The idea: one law for
-- every list of checks that ends with that of 8; a board that keeps the rules is green or red, never both.
use mathlib.Core.Path.{◌≡◌}
use mathlib.Core.Logic.{inl, inr}
use mathlib.Core.Bool.{true}
use mathlib.Core.List.{List, [], ◌∷◌, ◌++◌}
use Prim.Native.Nat.{ℕ}
use native.Mathlib.Omega.{arith}
use lib.ListN.{length}
use Rattle.orders.proofs.Tests.{is_true}
use Rattle.board.specs.declared.Answer.{Answer}
use Rattle.board.specs.declared.Board.{Board}
use Rattle.board.specs.Answers.{Check, check, Answers, NoneApplies}
use Rattle.board.specs.Filler.{Sized}
use Rattle.board.specs.Good.{good, records_fit}
use Rattle.board.specs.Green.{Red}
use Rattle.board.specs.Numbers as answer
use Rattle.board.specs.Told.{Told}
use Rattle.board.specs.View.{View, view}
use Rattle.board.proofs.AnswersLaws.{past_first}
use Rattle.board.proofs.GoodLaws.{good→records}
use Rattle.board.proofs.GreenLaws.{green_not_red, red_not_green}
use Rattle.file.specs.Reads.{board_of}
use Rattle.file.proofs.Accepted.{accepted_good}
use Rattle.open.specs.Opens.{said, Opened, Opens}
use Rattle.requests.specs.declared.RequestAct.{RequestAct}
use Rattle.requests.specs.declared.RequestAdmit.{RequestAdmit}
use Rattle.requests.specs.declared.RequestWithdraw.{RequestWithdraw}
use Rattle.verdict.specs.Checked.{Checked}
use Rattle.admit.specs.Admits.{after_admit, admit_earlier, Admits}
use Rattle.act.specs.ActsNow.{after_act, act_earlier, ActsNow}
use Rattle.act.proofs.Acting as acting
use Rattle.withdraw.specs.Withdraws.{after_withdraw, withdraw_earlier, Withdraws}
use Rattle.withdraw.proofs.Withdrawing as withdrawing
use Rattle.promises.specs.Judged.{Judged, check_earlier, open_earlier}
use Rattle.promises.proofs.AfterCalls.{admit_fits}

module _
    (v : View) (fit : records_fit v ≡ true) (before after : List ℕ) (r : Answer) (told : Told v before after r)
  where
    by_the_last : Answers (check answer.red (Red v) ∷ []) r.number → Judged v before after r
    by_the_last (inl (red, is)) =
        record {
          denied = (λ e. red, λ e. is);
          not_green = (λ e g. red_not_green v red g, λ f. is);
          accepted = (λ e. absurd (omega arith), λ g. absurd (red_not_green v red g));
          order = told.red;
        }
    by_the_last (inr (not_red, is)) =
        record {
          denied = (λ e. absurd (omega arith), λ red. absurd (not_red red));
          not_green = (λ e. absurd (omega arith), λ f. absurd (f (green_not_red v fit not_red)));
          accepted = (λ e. green_not_red v fit not_red, λ g. is);
          order = told.red;
        }

    -- past the earlier checks, the verdict alone decides
    pub judged :
        (earlier : List Check) → NoneApplies earlier
        → Answers (earlier ++ (check answer.red (Red v) ∷ [])) r.number → Judged v before after r
    judged earlier none a =
        by_the_last (past_first earlier (check answer.red (Red v) ∷ []) r.number none a)

-- ---- past the earlier checks, denied exactly if the board after it would be red: a new duty, a permitted
-- act, a withdrawal

module _ (b : Board) (size : Sized b) (before after : List ℕ) (r : Answer) (left : Board) where
  pub admit_judged :
      (q : RequestAdmit) → NoneApplies (admit_earlier b (length before) q) → Admits b before q r left after
      → Judged (after_admit b q) before after r
  admit_judged q none c =
      let fits = admit_fits b size before q none in
      judged (after_admit b q) fits.records before after r c.told (admit_earlier b (length before) q) none
      c.number

  pub act_judged :
      (q : RequestAct) → NoneApplies (act_earlier b (length before) q) → ActsNow b before q r left after
      → Judged (after_act b q) before after r
  act_judged q none c =
      let fits = acting.fits_after b size (length before) q none in
      judged (after_act b q) fits.records before after r c.told (act_earlier b (length before) q) none
      c.number

  pub withdraw_judged :
      (q : RequestWithdraw) → NoneApplies (withdraw_earlier b (length before) q)
      → Withdraws b before q r left after → Judged (after_withdraw b q) before after r
  withdraw_judged q none c =
      let fits = withdrawing.fits_after b size (length before) q none in
      judged (after_withdraw b q) fits.records before after r c.told
      (withdraw_earlier b (length before) q) none c.number

-- ---- the tick agrees with the definition of green: the verdict alone, and a file

pub check_judged :
    (b : Board) (before after : List ℕ) (r : Answer) → NoneApplies (check_earlier b (length before))
    → Checked b before after r → Judged (view b) before after r
check_judged b before after r none c =
    judged (view b) (good→records b (is_true (good b) none.0)) before after r c.told
    (check_earlier b (length before)) none c.number

pub open_judged :
    (s before after : List ℕ) (o : Opened) → NoneApplies (open_earlier s (length before))
    → Opens s before after o → Judged (said s) before after o.answer
open_judged s before after o none p =
    judged (said s) (good→records (board_of s) (accepted_good s none.1)) before after o.answer p.told
    (open_earlier s (length before)) none p.number
