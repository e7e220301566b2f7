-- What line_for promises settles its outcome: two outcomes that keep the promise are the same bytes and the
-- same length, once the failing order is chosen. (With 8 that choice is free among true ones:
-- docs/FAILING-ORDERS.md. With every other number there is nothing to choose.)
use mathlib.Core.Path.{◌≡◌, subst}
use mathlib.Core.List.{List}
use Prim.Native.Nat.{ℕ}
use Rattle.board.specs.Told.{OneOrder}
use Rattle.line.specs.Line.{line_of}
use Rattle.put.specs.Put.{Put}
use Rattle.line.proofs.Settled.{same_line}
use Rattle.open.specs.Opens.{Opened}
use Rattle.open.proofs.Settled.{same_board, same_opening}
use Rattle.printed.specs.Printed.{Printed}

-- the line of what was opened
abbrev line_for : Opened → List ℕ → List ℕ
line_for opened list = line_of opened.answer opened.board.counts.duties list

module _
    (input before after after' : List ℕ) (n n' : ℕ) (p : Printed input before after n)
    (q : Printed input before after' n') (one : OneOrder p.opens.told q.opens.told)
  where
    same_bytes : line_for p.opened p.list ≡ line_for q.opened q.list
    same_bytes =
        let board = same_board _ _ _ _ p.opened q.opened p.opens q.opens in
        let opening = same_opening _ _ _ _ p.opened q.opened p.opens q.opens one in
        λ i. line_of (opening.0 i) (board i).counts.duties (opening.1 i)

    pub same_printed : (after ≡ after') × (n ≡ n')
    same_printed =
        let line = subst (λ (l : List ℕ). Put l before 0 after n) same_bytes p.line in
        same_line q.opened.answer q.opened.board.counts.duties q.list _ _ _ _ _ line q.line
