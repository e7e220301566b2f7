-- The answer of check. A board value that breaks a rule gets 19, a short list 9; else the board is judged.
use mathlib.Core.Path.{◌≡◌, refl}
use mathlib.Core.Logic.{◌⊎◌, inl, inr}
use mathlib.Core.Bool.{true, false}
use mathlib.Core.List.{List}
use Prim.Native.Nat.{ℕ, ◌<◌, ◌≤◌}
use native.Mathlib.Omega.{arith}
use lib.ListN.{length}
use Rattle.std.specs.Prelude.{Result, Ok, Err}
use Rattle.orders.proofs.Tests.{clash}
use Rattle.board.specs.declared.Board.{Board}
use Rattle.board.specs.declared.Refusal.{Refusal}
use Rattle.board.specs.Answers.{Answers, plain_answer}
use Rattle.board.specs.Good.{good}
use Rattle.board.specs.Green.{Red}
use Rattle.board.specs.Limits.{max_duties}
use Rattle.board.specs.Numbers as answer
use Rattle.board.specs.Refusals.{answered, plainly_done}
use Rattle.board.specs.View.{view}
use Rattle.board.proofs.GreenLaws.{red_not_green}
use Rattle.board.proofs.ToldLaws.{untouched}
use Rattle.verdict.specs.Checked.{check_checks, Checked}
use Rattle.verdict.specs.Judging.{Judged}

module _ (b : Board) (before : List ℕ) where
  pub broken : good b ≡ false → Checked b before before (plain_answer answer.broken)
  broken e =
      record {
        number = inl (e, refl);
        told = untouched (view b) before answer.broken (λ e. omega arith);
        serial = refl;
      }

  module _ (whole : good b ≡ true) where
    pub short : length before < max_duties → Checked b before before (plain_answer answer.list)
    short h =
        record {
          number = inr (λ e. clash whole e, inl (h, refl));
          told = untouched (view b) before answer.list (λ e. omega arith);
          serial = refl;
        }

    module _ (room : max_duties ≤ length before) where
      passed : (n : ℕ) → (Red (view b) × (n ≡ answer.red)) ⊎ ((Red (view b) → ⊥) × (n ≡ answer.done))
          → Answers (check_checks b (length before)) n
      passed n a = inr (λ e. clash whole e, inr (λ h. omega arith, a))

      pub judged :
          {A : Type 0} (after : List ℕ) (r : Result A Refusal) → Judged (view b) before after r
          → Checked b before after (answered plainly_done r)
      judged after (Ok done) (green, same) =
          rw same
          (record {
            number = passed answer.done (inr (λ r. red_not_green (view b) r green, refl));
            told = untouched (view b) before answer.done (λ e. omega arith);
            serial = refl;
          })
      judged after (Err e) (n, (is, told)) =
          rw is
          (record {
            number = passed answer.red (inl ((told.order, told.failing), refl));
            told = record { red = λ e. told; otherwise = λ e. absurd (e refl) };
            serial = refl;
          })
