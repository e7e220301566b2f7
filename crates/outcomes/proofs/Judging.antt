-- The board after a call judged: where check answers 0 the outcome is that board, else the board given. And
-- from that to what a call promises: the checks before the verdict did not apply, the board after is good
-- and the list long enough, so check answers by whether the board after is red.
use mathlib.Core.Path.{◌≡◌, refl, sym, subst}
use mathlib.Core.Bool.{false}
use mathlib.Core.List.{List, [], ◌∷◌, ◌++◌}
use Prim.Native.Nat.{ℕ, ◌≤◌, ◌<◌}
use native.Mathlib.Omega.{arith}
use lib.ListN.{length}
use Rattle.std.specs.Prelude.{Result, Ok, Err}
use Rattle.orders.proofs.Tests.{clash}
use Rattle.board.specs.declared.Board.{Board}
use Rattle.board.specs.declared.Refusal.{Refusal}
use Rattle.board.specs.declared.Serial.{Serial}
use Rattle.board.specs.Answers.{Check, check, Answers, plain_answer, NoneApplies}
use Rattle.board.specs.Called.{Called}
use Rattle.board.specs.Good.{good}
use Rattle.board.specs.Green.{Red}
use Rattle.board.specs.Limits.{max_duties}
use Rattle.board.specs.Numbers as answer
use Rattle.board.specs.Refusals.{number_of, refused_answer}
use Rattle.board.specs.Saying.{board_saying}
use Rattle.board.specs.Told.{Told}
use Rattle.board.specs.View.{View, view}
use Rattle.board.proofs.AnswersLaws.{Lacks, never_answered}
use Rattle.board.proofs.AnswersLaws.{refused_first, then_second, past_first}
use Rattle.board.proofs.RefusalLaws.{refusal_numbered, plainly_refused}
use Rattle.board.proofs.SayingLaws.{ViewFits, view_saying, saying_good}
use Rattle.board.proofs.ToldLaws.{untouched}
use Rattle.verdict.specs.Checked.{Checked}
use Rattle.outcomes.specs.declared.Accepted.{Accepted}
use Rattle.outcomes.specs.Outcomes.{answer_of, board_left, Judges}

-- ---- what `judged` gives

module _ (b next : Board) (serial : Serial) (before after : List ℕ) where
  pub judged_refused :
      (e : Refusal) → Checked next before after (refused_answer e)
      → Judges b next serial.0 before after (Err e)
  judged_refused e c =
      record {
        number = c.number;
        accepted = λ d. absurd (refusal_numbered e d);
        refused = λ f. (refl, refl);
        told = c.told;
      }

  pub judged_accepted :
      Checked next before after (plain_answer answer.done)
      → Judges b next serial.0 before after (Ok (record { board = next; serial = serial }))
  judged_accepted c =
      record {
        number = c.number;
        accepted = λ d. (refl, refl);
        refused = λ f. absurd (f refl);
        told =
            record {
              red = λ d. absurd (omega arith);
              otherwise = λ f. ((c.told.otherwise (λ d. omega arith)).0, refl);
            };
      }

-- ---- what a call promises

abbrev red_check : View → List Check
red_check v = check answer.red (Red v) ∷ []

module _ (earlier : List Check) (b : Board) (v : View) (serial : ℕ) (before : List ℕ) where
  -- an earlier check refuses
  pub refused_called :
      (e : Refusal) → Lacks answer.red earlier → Answers earlier (number_of e)
      → Called (earlier ++ red_check v) b v serial before before (refused_answer e) b
  refused_called e l a =
      let not_red = never_answered answer.red earlier (number_of e) (λ d. omega arith) l a in
      record {
        number = refused_first earlier (red_check v) (number_of e) (refusal_numbered e) a;
        accepted = λ d. absurd (refusal_numbered e d);
        refused = λ f. (refl, refl);
        told =
            subst (Told v before before) (sym (plainly_refused e not_red))
            (untouched v before (number_of e) not_red);
      }

  -- no earlier check applies, and the board after is judged
  pub judged_called :
      (after : List ℕ) (r : Result Accepted Refusal) → NoneApplies earlier → ViewFits v
      → max_duties ≤ length before → Judges b (board_saying v) serial before after r
      → Called (earlier ++ red_check v) b v serial before after (answer_of r) (board_left b r)
  judged_called after r none fits room j =
      let number = (answer_of r).number in
      record {
        number =
            then_second earlier (red_check v) number none
            (subst
            (λ (w : View). Answers (red_check w) number)
            (view_saying v fits)
            (past_first
            (check answer.broken (good (board_saying v) ≡ false)
            ∷ check answer.list (length before < max_duties)
            ∷ [])
            (red_check (view (board_saying v)))
            number
            (λ e. clash (saying_good v fits) e, (λ h. omega arith, tt))
            j.number));
        accepted = j.accepted;
        refused = j.refused;
        told = subst (λ (w : View). Told w before after (answer_of r)) (view_saying v fits) j.told;
      }
