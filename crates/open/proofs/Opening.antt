-- The answers of open: the list is too short; the file is refused; the board that it says is red; it is
-- green. In the last two the board is the one that the bytes say; it is good, as reading it showed, so that
-- its check answers 8 or 0.
use mathlib.Core.Path.{◌≡◌, refl, sym, subst}
use mathlib.Core.Logic.{inl, inr}
use mathlib.Core.Bool.{true, false}
use mathlib.Core.List.{List, [], ◌∷◌}
use Prim.Native.Nat.{ℕ, ◌≤◌, ◌<◌}
use native.Mathlib.Omega.{arith}
use lib.ListN.{length}
use Rattle.std.specs.Prelude.{Ok, Err}
use Rattle.orders.proofs.Tests.{clash}
use Rattle.board.specs.declared.Answer.{Answer}
use Rattle.board.specs.declared.Board.{Board}
use Rattle.board.specs.declared.Refusal.{Refusal}
use Rattle.board.specs.declared.Refusal.TheVariants.{List as ShortList}
use Rattle.board.specs.Answers.{Check, check, Answers, plain_answer, NoneApplies}
use Rattle.board.specs.Good.{good}
use Rattle.board.specs.Green.{Red}
use Rattle.board.specs.Limits.{max_duties}
use Rattle.board.specs.Numbers as answer
use Rattle.board.specs.Refusals.{number_of, refused_answer}
use Rattle.board.specs.Told.{Told}
use Rattle.board.proofs.AnswersLaws.{Lacks, done_none, never_answered}
use Rattle.board.proofs.AnswersLaws.{refused_first, then_second, past_first}
use Rattle.board.proofs.RefusalLaws.{refusal_numbered, plainly_refused}
use Rattle.board.proofs.ToldLaws.{untouched}
use Rattle.file.specs.Reads.{read_checks, board_of}
use Rattle.file.proofs.Accepted.{read_refuses, accepted_good}
use Rattle.verdict.specs.Checked.{Checked}
use Rattle.open.specs.Opens.{said, open_checks, Opens, opened_by}

-- the last check of open
abbrev pub red_check : List ℕ → List Check
red_check s = check answer.red (Red (said s)) ∷ []

-- reading a file never answers 8
no_red : (s : List ℕ) → Lacks answer.red (read_checks s)
no_red s = refl

module _ (s before : List ℕ) where
  refused_lem :
      (e : Refusal) → (number_of e ≡ answer.red → ⊥) → Answers (open_checks s (length before)) (number_of e)
      → Opens s before before (opened_by (Err e))
  refused_lem e f a =
      record {
        number = a;
        accepted = λ d. absurd (refusal_numbered e d);
        refused = λ d. refl;
        told =
            subst (Told (said s) before before) (sym (plainly_refused e f))
            (untouched (said s) before (number_of e) f);
        serial = refl;
      }

  pub short : length before < max_duties → Opens s before before (opened_by (Err ShortList))
  short h = refused_lem ShortList (λ e. omega arith) (inl (h, refl))

  module _ (room : max_duties ≤ length before) where
    pub not_read :
        (e : Refusal) → Answers (read_checks s) (number_of e) → Opens s before before (opened_by (Err e))
    not_read e a =
        let number = number_of e in
        refused_lem e (never_answered answer.red (read_checks s) number (λ d. omega arith) (no_red s) a)
        (inr (λ h. omega arith, refused_first (read_checks s) (red_check s) number (refusal_numbered e) a))

    -- the file is read, and check answers r on the board that it says
    module _
        (board : Board) (after : List ℕ) (accepted : Answers (read_checks s) answer.done)
        (is : board ≡ board_of s)
      where
        none : NoneApplies (read_checks s)
        none = done_none (read_checks s) (read_refuses s) accepted

        module _ (r : Answer) (checked : good board ≡ true → Checked board before after r) where
          it : Checked (board_of s) before after r
          it =
              subst (λ (b : Board). (good b ≡ true → Checked b before after r)) is checked
              (accepted_good s none)

          number : Answers (open_checks s (length before)) r.number
          number =
              inr (
                λ h. omega arith,
                then_second (read_checks s) (red_check s) r.number none
                    (past_first
                    (check answer.broken (good (board_of s) ≡ false)
                    ∷ check answer.list (length before < max_duties)
                    ∷ [])
                    (red_check s)
                    r.number
                    (λ e. clash (accepted_good s none) e, (λ h. omega arith, tt))
                    it.number),
              )

        pub opened_red :
            (e : Refusal) → (good board ≡ true → Checked board before after (refused_answer e))
            → Opens s before after (opened_by (Err e))
        opened_red e checked =
            record {
              number = number (refused_answer e) checked;
              accepted = λ d. absurd (refusal_numbered e d);
              refused = λ d. refl;
              told = (it (refused_answer e) checked).told;
              serial = refl;
            }

        pub opened_green :
            (good board ≡ true → Checked board before after (plain_answer answer.done))
            → Opens s before after (opened_by (Ok board))
        opened_green checked =
            record {
              number = number (plain_answer answer.done) checked;
              accepted = λ d. is;
              refused = λ f. absurd (f refl);
              told = (it (plain_answer answer.done) checked).told;
              serial = refl;
            }
