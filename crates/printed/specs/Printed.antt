-- The line that the program prints for an input.
use Rattle.std.specs.Prelude.{List, ℕ, ◌+◌, take, replicate}
use Rattle.board.specs.Limits.{max_duties}
use Rattle.layout.specs.Layout.{longest}
use Rattle.line.specs.Line.{line_of}
use Rattle.put.specs.Put.{Put}
use Rattle.open.specs.Opens.{Opened}
use Rattle.open.specs.Opens.{Opens}

-- An input of more than 6,952 bytes is cut to 6,953 before it is judged.
abbrev pub cut : List ℕ → List ℕ
cut input = take (longest + 1) input

-- the list lent to open: room for 128 serials, all 0
abbrev pub lent_list : List ℕ
lent_list = replicate max_duties 0

-- The line of what open answers on the input so cut: `yes` and the number of duties; `no`, the length of the
-- order and its serials; or `refused` and the number. It stands at the start of the room, the rest of which
-- is untouched, and n is its length.
pub record Printed (input before after : List ℕ) (n : ℕ) : Type 0 where
  pub opened : Opened
  pub list : List ℕ
  pub opens : Opens (cut input) lent_list list opened
  pub line : Put (line_of opened.answer opened.board.counts.duties list) before 0 after n
