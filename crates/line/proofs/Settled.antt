-- What write_line promises settles its outcome: two outcomes that keep the promise are the same bytes and the
-- same length.
use mathlib.Core.Path.{◌≡◌}
use mathlib.Core.List.{List}
use Prim.Native.Nat.{ℕ}
use Rattle.board.specs.declared.Answer.{Answer}
use Rattle.put.specs.Put.{Put}
use Rattle.line.specs.Line.{line_of}
use Rattle.put.proofs.PutLaws.{put_once}

pub same_line :
    (r : Answer) (duties : ℕ) (list before after after' : List ℕ) (n n' : ℕ)
    → Put (line_of r duties list) before 0 after n → Put (line_of r duties list) before 0 after' n'
    → (after ≡ after') × (n ≡ n')
same_line r duties list before after after' n n' p q = put_once p q
