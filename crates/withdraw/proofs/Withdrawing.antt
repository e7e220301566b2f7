-- The two outcomes of withdraw: an earlier check refuses; or none applies, and the board without the duty
-- is judged.
use mathlib.Core.Path.{◌≡◌, refl, ◌∙◌, subst}
use mathlib.Core.Bool.{true}
use mathlib.Core.Logic.{inl, inr}
use mathlib.Core.List.{List, [], ◌∷◌}
use Prim.Native.Nat.{ℕ, ◌≤◌}
use native.Mathlib.Omega.{arith}
use lib.ListN.{length}
use Rattle.std.specs.Prelude.{Result, None, Some}
use Rattle.orders.specs.Lists.{find}
use Rattle.board.specs.After.{named}
use Rattle.orders.proofs.Tests.{is_true}
use Rattle.board.specs.declared.Board.{Board}
use Rattle.board.specs.declared.Duty.{Duty}
use Rattle.board.specs.declared.Refusal.{Refusal}
use Rattle.board.specs.Answers.{Check, check, Answers, NoneApplies}
use Rattle.board.specs.Filler.{Sized}
use Rattle.board.specs.Good.{good}
use Rattle.board.specs.Limits.{max_duties}
use Rattle.board.specs.Numbers as answer
use Rattle.board.specs.Open.{NotOpen}
use Rattle.board.specs.Refusals.{number_of, refused_answer}
use Rattle.board.specs.View.{view}
use Rattle.board.proofs.AnswersLaws.{done_none}
use Rattle.board.proofs.SayingLaws.{ViewFits, view_fits, saying_good}
use Rattle.after.specs.Boards.{withdrawn_board}
use Rattle.after.proofs.AfterLaws.{withdrawn_is}
use Rattle.after.proofs.FitsLaws.{withdrawn_fits}
use Rattle.pool.proofs.FoundLaws.{found_missing, found_open}
use Rattle.outcomes.specs.declared.Accepted.{Accepted}
use Rattle.outcomes.specs.Outcomes.{answer_of, board_left, ready_checks, Judges}
use Rattle.outcomes.proofs.First as first
use Rattle.outcomes.proofs.Judging.{refused_called, judged_called}
use Rattle.requests.specs.declared.RequestWithdraw.{RequestWithdraw}
use Rattle.withdraw.specs.Withdraws.{after_withdraw, withdraw_earlier, Withdraws}

-- ---- no earlier check applies

module _
    (b : Board) (size : Sized b) (room : ℕ) (q : RequestWithdraw)
    (none : NoneApplies (withdraw_earlier b room q))
  where
    whole : good b ≡ true
    whole = is_true (good b) none.0

    pub fits_after : ViewFits (after_withdraw b q)
    fits_after = withdrawn_fits (view b) (view_fits b size whole) q.clock q.serial.0

-- ---- what withdraw promises

module _ (b : Board) (room : ℕ) (q : RequestWithdraw) where
  -- 12
  abbrev last : List Check
  last = check answer.not_open (NotOpen (view b) q.serial.0) ∷ []

  pub not_ready :
      (e : Refusal) → Answers (ready_checks b room q.clock) (number_of e)
      → Answers (withdraw_earlier b room q) (number_of e)
  not_ready e a = first.not_ready b room q.clock last e a

  module _ (past : Answers (ready_checks b room q.clock) answer.done) where
    pub answers_12 :
        find (named q.serial.0) (view b).duties ≡ None → Answers (withdraw_earlier b room q) answer.not_open
    answers_12 missing =
        first.is_ready b room q.clock last past answer.not_open
        (inl (found_missing (view b) q.serial.0 missing, refl))

    pub answers_0 :
        (d : Duty) → find (named q.serial.0) (view b).duties ≡ Some d
        → Answers (withdraw_earlier b room q) answer.done
    answers_0 d found =
        let open_one = found_open (view b) q.serial.0 d found in
        first.is_ready b room q.clock last past answer.done
        (inr (λ none. none d open_one.open_duty open_one.has_serial, refl))

module _ (b : Board) (before : List ℕ) (q : RequestWithdraw) where
  abbrev earlier : List Check
  earlier = withdraw_earlier b (length before) q

  pub refused_withdraws :
      (e : Refusal) → Answers earlier (number_of e) → Withdraws b before q (refused_answer e) b before
  refused_withdraws e a = refused_called earlier b (after_withdraw b q) 0 before e refl a

  pub judged_withdraws :
      Sized b → Answers earlier answer.done → (next : Board) → next ≡ withdrawn_board b q.clock q.serial.0
      → (after : List ℕ) (r : Result Accepted Refusal)
      → ((c : Board) → good next ≡ true → Judges c next 0 before after r)
      → Withdraws b before q (answer_of r) (board_left b r) after
  judged_withdraws size answers next is after r j =
      let none = done_none earlier refl answers in
      let short = none.1.0 in
      let room : max_duties ≤ length before = omega arith in
      let says =
      is ∙ withdrawn_is b size (whole b size (length before) q none) q.clock q.serial.0 in
      let fits = fits_after b size (length before) q none in
      let judges =
      subst (λ (n : Board). (good n ≡ true → Judges b n 0 before after r)) says (j b)
      (saying_good (after_withdraw b q) fits) in
      judged_called earlier b (after_withdraw b q) 0 before after r none fits room judges
