-- `first_fault` meets its contract. The loops' invariant: no fault among the parts so far, and none
-- among this part's records so far. So the fault with which the loops are left is the first.
use mathlib.Core.Path.{◌≡◌}
use Rattle.board.specs.Refusals.{number_answered}
use Rattle.file.specs.Parts.{fault_at}
use Rattle.file.proofs.FirstFault.{first_in, fault_before}
use Rattle.file.proofs.parts.first_fault.Given as goal

abbrev pub invariant-loop-i : goal.invariant-loop-i
invariant-loop-i l = (number_answered l.found ≡ 0) × (first_in (fault_at l.file.bytes.now l.part) l.i ≡ 0)

abbrev pub invariant-parts : goal.invariant-parts
invariant-parts l = (number_answered l.found ≡ 0) × (fault_before l.file.bytes.now l.part-index ≡ 0)
