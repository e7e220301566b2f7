-- The two outcomes of act: an earlier check refuses; or none applies, and the board with the change made is
-- judged. There what is done fits the board, so the board after keeps the rules and has room.
use mathlib.Core.Path.{◌≡◌, refl, ◌∙◌, subst}
use mathlib.Core.Bool.{true}
use mathlib.Core.List.{List}
use Prim.Native.Nat.{ℕ, ◌≤◌}
use native.Mathlib.Omega.{arith}
use lib.ListN.{length}
use Rattle.std.specs.Prelude.{Result}
use Rattle.orders.proofs.Tests.{is_true, and_left, and_right}
use Rattle.board.specs.declared.Board.{Board}
use Rattle.board.specs.declared.Refusal.{Refusal}
use Rattle.board.specs.Answers.{Check, Answers, NoneApplies}
use Rattle.board.specs.Filler.{Sized}
use Rattle.board.specs.Good.{good, what_fits}
use Rattle.board.specs.Limits.{max_duties}
use Rattle.board.specs.Numbers as answer
use Rattle.board.specs.Refusals.{number_of, refused_answer}
use Rattle.board.specs.View.{view}
use Rattle.board.proofs.AnswersLaws.{done_none}
use Rattle.board.proofs.SayingLaws.{ViewFits, view_fits, saying_good}
use Rattle.after.specs.Boards.{acted_board}
use Rattle.after.proofs.AfterLaws.{acted_is}
use Rattle.after.proofs.FitsLaws.{acted_fits}
use Rattle.outcomes.specs.declared.Accepted.{Accepted}
use Rattle.outcomes.specs.Outcomes.{answer_of, board_left, Judges}
use Rattle.outcomes.proofs.Judging.{refused_called, judged_called}
use Rattle.requests.specs.declared.RequestAct.{RequestAct}
use Rattle.requests.specs.Requests.{doing_fits}
use Rattle.act.specs.ActsNow.{what_now, after_act, act_earlier, ActsNow}

-- ---- no earlier check applies

module _
    (b : Board) (size : Sized b) (room : ℕ) (q : RequestAct) (none : NoneApplies (act_earlier b room q))
  where
    whole : good b ≡ true
    whole = is_true (good b) none.0

    what_fits_lem : what_fits b.counts.users b.counts.roles (what_now q) ≡ true
    what_fits_lem =
        let fits = is_true (doing_fits b.counts.users b.counts.roles q.doer q.action q.first
        q.second) none.1.1.1.0 in
        search (and_left, and_right)

    pub fits_after : ViewFits (after_act b q)
    fits_after = acted_fits (view b) (view_fits b size whole) q.clock (what_now q) what_fits_lem

-- ---- what act promises

module _ (b : Board) (before : List ℕ) (q : RequestAct) where
  abbrev earlier : List Check
  earlier = act_earlier b (length before) q

  pub refused_acts :
      (e : Refusal) → Answers earlier (number_of e) → ActsNow b before q (refused_answer e) b before
  refused_acts e a = refused_called earlier b (after_act b q) 0 before e refl a

  pub judged_acts :
      Sized b → Answers earlier answer.done → (next : Board) → next ≡ acted_board b q.clock (what_now q)
      → (after : List ℕ) (r : Result Accepted Refusal)
      → ((c : Board) → good next ≡ true → Judges c next 0 before after r)
      → ActsNow b before q (answer_of r) (board_left b r) after
  judged_acts size answers next is after r j =
      let none = done_none earlier refl answers in
      let short = none.1.0 in
      let room : max_duties ≤ length before = omega arith in
      let says =
      is
      ∙ acted_is b size (whole b size (length before) q none) q.clock (what_now q)
      (what_fits_lem b size (length before) q none) in
      let fits = fits_after b size (length before) q none in
      let judges =
      subst (λ (n : Board). (good n ≡ true → Judges b n 0 before after r)) says (j b)
      (saying_good (after_act b q) fits) in
      judged_called earlier b (after_act b q) 0 before after r none fits room judges
