-- `file::read` meets its contract: where the header's checks pass, the first faulty record refuses the file.
use mathlib.Core.Path.{◌≡◌, refl}
use mathlib.Core.List.{List}
use Prim.Native.Nat.{ℕ}
use Rattle.std.specs.Prelude.{Err}
use Rattle.std.proofs.lemmas.Result.{err_from_is_err_and}
use Rattle.board.specs.declared.Refusal.{Refusal}
use Rattle.board.specs.Answers.{Answers}
use Rattle.board.specs.Numbers as answer
use Rattle.board.specs.Refusals.{number_of}
use Rattle.board.proofs.AnswersLaws.{done_none, then_second}
use Rattle.board.proofs.RefusalLaws.{refusal_numbered}
use Rattle.file.specs.Reads.{header_checks, record_checks, Reads}
use Rattle.file.specs.Records.{first_fault}
use Rattle.file.proofs.Accepted.{header_refuses}
use Rattle.file.proofs.FirstFault.{fault_answers}
use Rattle.file.proofs.read.Goals as goal

refused :
    (s bytes : List ℕ) (e : Refusal) → Answers (header_checks s) answer.done → bytes ≡ s
    → number_of e ≡ first_fault bytes → Reads s (Err e)
refused s bytes e header same fault =
    record {
      number =
          then_second (header_checks s) (record_checks s) (number_of e)
          (done_none (header_checks s) (header_refuses s) header)
          (rw (fault, same) (fault_answers s));
      accepted = λ z. absurd (refusal_numbered e z);
      refused = λ z. refl;
    }

pub returns-in_err-first_fault : goal.returns-in_err-first_fault
returns-in_err-first_fault c =
    let exit = c.from_residual-in_err-first_fault in
    let e = err_from_is_err_and exit.result exit.ensures.1 in
    rw (e.1, e.2)
    (refused _ _ _ c.in_ok-file.ensures.checks c.in_ok-file.ensures.file c.in_err-first_fault.ensures)
