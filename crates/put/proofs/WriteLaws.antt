-- Laws of writing: bytes written after bytes, of which every record, part and line is made.
use mathlib.Core.Path.{◌∙◌}
use mathlib.Core.List.{List, [], ◌++◌}
use Prim.Native.Nat.{ℕ}
use Rattle.put.specs.declared.Writer.{Writer}
use Rattle.put.specs.Writes.{Writes}
use Rattle.put.proofs.PutLaws.{put_last, put_then}

pub writes_then : {a b : List ℕ} {x y z : Writer} → Writes a x y → Writes b y z → Writes (a ++ b) x z
writes_then p q = record { same_room = q.same_room ∙ p.same_room; put = put_then p.put q.put }

-- the last bytes of a list of bytes written together
pub writes_last : {a : List ℕ} {x y : Writer} → Writes a x y → Writes (a ++ []) x y
writes_last p = record { same_room = p.same_room; put = put_last p.put }
