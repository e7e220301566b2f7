-- From what `ready` answers to what a call answers, whose checks are those of `ready` and then others.
use mathlib.Core.Path.{◌≡◌, refl}
use mathlib.Core.Bool.{true}
use mathlib.Core.List.{List, ◌++◌}
use Prim.Native.Nat.{ℕ}
use Rattle.orders.proofs.Tests.{is_true}
use Rattle.board.specs.declared.Board.{Board}
use Rattle.board.specs.declared.Refusal.{Refusal}
use Rattle.board.specs.Answers.{Check, Answers, NoneApplies}
use Rattle.board.specs.Good.{good}
use Rattle.board.specs.Numbers as answer
use Rattle.board.specs.Refusals.{number_of}
use Rattle.board.proofs.AnswersLaws.{done_none, refused_first, then_second}
use Rattle.board.proofs.RefusalLaws.{refusal_numbered}
use Rattle.outcomes.specs.Outcomes.{ready_checks}

module _ (b : Board) (room clock : ℕ) (rest : List Check) where
  pub not_ready :
      (e : Refusal) → Answers (ready_checks b room clock) (number_of e)
      → Answers (ready_checks b room clock ++ rest) (number_of e)
  not_ready e a = refused_first (ready_checks b room clock) rest (number_of e) (refusal_numbered e) a

  module _ (ready : Answers (ready_checks b room clock) answer.done) where
    none : NoneApplies (ready_checks b room clock)
    none = done_none (ready_checks b room clock) refl ready

    pub whole : good b ≡ true
    whole = is_true (good b) none.0

    pub is_ready : (n : ℕ) → Answers rest n → Answers (ready_checks b room clock ++ rest) n
    is_ready n a = then_second (ready_checks b room clock) rest n none a
