-- As many bytes as are answered stand in the room.
use mathlib.Core.Path.{◌≡◌, sym}
use mathlib.Core.List.{List}
use Prim.Native.Nat.{ℕ}
use native.Mathlib.Omega.{arith}
use lib.ListN.{length, take}
use lib.Seq.{length-take-le}
use Rattle.printed.specs.Printed.{Printed}

pub line_length :
    {input before after : List ℕ} {n : ℕ} → Printed input before after n → n ≡ length (take n after)
line_length {after = after} {n = n} p = sym (length-take-le n after (omega arith))
