-- The tick of check: it answers 0 exactly if the board value is good, the lent list is long enough, and the
-- board is green.
use mathlib.Core.Path.{◌≡◌, refl, subst}
use mathlib.Core.Logic.{◌↔◌}
use mathlib.Core.Bool.{true}
use mathlib.Core.List.{List}
use Prim.Native.Nat.{ℕ, ◌≤◌}
use native.Mathlib.Omega.{arith}
use lib.ListN.{length}
use Rattle.orders.proofs.Tests.{is_true, clash}
use Rattle.board.specs.declared.Answer.{Answer}
use Rattle.board.specs.declared.Board.{Board}
use Rattle.board.specs.Answers.{Answers}
use Rattle.board.specs.Good.{good}
use Rattle.board.specs.Green.{Green}
use Rattle.board.specs.Limits.{max_duties}
use Rattle.board.specs.Numbers as answer
use Rattle.board.specs.View.{view}
use Rattle.board.proofs.AnswersLaws.{done_none, none_done}
use Rattle.board.proofs.GoodLaws.{good→records}
use Rattle.board.proofs.GreenLaws.{green_not_red, red_not_green}
use Rattle.verdict.specs.Checked.{check_checks, Checked}

pub record Ticked (b : Board) (room : ℕ) : Type 0 where
  pub whole : good b ≡ true
  pub list : max_duties ≤ room
  pub green : Green (view b)

module _ (b : Board) (before after : List ℕ) (r : Answer) (c : Checked b before after r) where
  done→ticked : r.number ≡ answer.done → Ticked b (length before)
  done→ticked e =
      let checks = check_checks b (length before) in
      let none = done_none checks refl (subst (Answers checks) e c.number) in
      let whole = is_true (good b) none.0 in
      let short = none.1.0 in
      record {
        whole = whole;
        list = omega arith;
        green = green_not_red (view b) (good→records b whole) none.1.1.0;
      }

  ticked→done : Ticked b (length before) → r.number ≡ answer.done
  ticked→done t =
      none_done (check_checks b (length before)) r.number (
        λ e. clash t.whole e,
        (λ h. let k = t.list in omega arith, (λ s. red_not_green (view b) s t.green, tt)),
      )
      c.number

  pub check_ticks : (r.number ≡ answer.done) ↔ Ticked b (length before)
  check_ticks = (done→ticked, ticked→done)
