-- What the walk writes from the start of a list: the serials stand there, and the rest is as it was.
use mathlib.Core.Path.{◌≡◌, sym, ap, ◌∙◌}
use mathlib.Core.List.{List, [], ◌∷◌, ◌++◌, append_assoc}
use Prim.Native.Nat.{ℕ, suc, ◌+◌, ◌≤◌, ◌<◌}
use native.Mathlib.Numerals.{add-one}
use native.Mathlib.Omega.{arith}
use lib.ListN.{length, set, take, drop, get_or, take-append-drop}
use lib.Seq.{take-suc, set_at, length-take-le}
use Rattle.board.specs.declared.Duty.{Duty}
use Rattle.plain.specs.Walks.{serials}
use Rattle.plain.specs.Walking.{written}

written_from :
    (order : List Duty) (at : ℕ) (list : List ℕ) → at + length order ≤ length list
    → written at order list ≡ take at list ++ (serials order ++ drop (at + length order) list)
written_from [] at list h =
    let e : at + 0 ≡ at = omega arith in rw e (sym (take-append-drop at list))
written_from (d ∷ order) at list h =
    let x = get_or list at 0 in
    let serial = d.serial.0 in
    let behind = serials order ++ drop (at + suc (length order)) list in
    let fits : at < length list = omega arith in
    let same : at + 1 + length order ≡ at + suc (length order) = omega arith in
    let rest : written (at + 1) order list ≡ take at list ++ (x ∷ behind) =
    written_from order (at + 1) list (omega arith)
    ∙ rw (same, add-one at, take-suc list at 0 fits) (append_assoc (take at list) (x ∷ []) behind) in
    ap (λ (l : List ℕ). set l at serial) rest
    ∙ set_at (take at list) x behind serial at (length-take-le at list (omega arith))

pub written_first :
    (order : List Duty) (list : List ℕ) → length order ≤ length list
    → written 0 order list ≡ serials order ++ drop (length order) list
written_first order list h =
    let e : 0 + length order ≡ length order = omega arith in
    rw e at (written_from order 0 list (omega arith))
