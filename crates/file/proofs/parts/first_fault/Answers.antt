-- `first_fault` meets its contract. The loops' invariant: no fault among the parts so far, and none
-- among this part's records so far. So the fault with which the loops are left is the first.
use mathlib.Core.Path.{◌≡◌, sym, ◌∙◌, ap}
use Prim.Native.Nat.{◌<◌}
use native.Mathlib.Omega.{arith}
use Rattle.board.proofs.RefusalLaws.{err_numbered}
use Rattle.layout.specs.Layout.{counts_of}
use Rattle.file.specs.Parts.{size_of, fault_at}
use Rattle.file.proofs.FirstFault.{part_at, part_fault, none_next, first_is, first_by_parts}
use Rattle.file.proofs.parts.first_fault.Goals as goal
use Rattle.file.proofs.parts.first_fault.Goals.{After-size-i-end}

-- the size of the part, by the file's header
size_is :
    (c : After-size-i-end)
    → c.size-i-end.result ≡ size_of (counts_of c.args.file.now.bytes.now) (part_at c.parts.part-index)
size_is c = c.size-i-end.ensures ∙ ap (λ n. size_of n (part_at c.parts.part-index)) c.args.file.now.complete.0

pub parts-preserved : goal.parts-preserved
parts-preserved c =
    let s = c.args.file.now.bytes.now in
    let k = c.parts.part-index in
    let all : c.loop-i.i ≡ size_of (counts_of s) (part_at k) =
    omega (arith, size_is (goal.at.parts-preserved c).After-size-i-end) in
    let none = rw all at c.loop-i.invariant.1 in
    (c.loop-i.invariant.0, none_next (λ k. part_fault s (part_at k)) k c.parts.invariant.1 none)

pub returns-after-parts : goal.returns-after-parts
returns-after-parts c =
    let s = c.args.file.now.bytes.now in
    let all : c.parts.part-index ≡ 4 = omega arith in
    c.parts.invariant.0 ∙ sym (first_by_parts s ∙ rw all at c.parts.invariant.1)

pub returns-then-is_err : goal.returns-then-is_err
returns-then-is_err c =
    let s = c.args.file.now.bytes.now in
    let k = c.parts.part-index in
    let i = c.loop-i.i in
    let found = c.fault_at-found.ensures in
    let err = err_numbered _ (sym c.is_err.ensures.value ∙ c.if-is_err.true) in
    let faulty : fault_at s (part_at k) i ≡ 0 → ⊥ = λ e. err (found ∙ e) in
    let inside : i < size_of (counts_of s) (part_at k) =
    omega (arith, size_is (goal.at.returns-then-is_err c).After-size-i-end) in
    let of_part = first_is (fault_at s (part_at k)) _ i inside c.loop-i.invariant.1 faulty in
    let none : part_fault s (part_at k) ≡ 0 → ⊥ = λ e. faulty (sym of_part ∙ e) in
    let of_file = first_is (λ k. part_fault s (part_at k)) 4 k c.parts-test.true c.parts.invariant.1 none in
    found ∙ sym (first_by_parts s ∙ of_file ∙ of_part)
