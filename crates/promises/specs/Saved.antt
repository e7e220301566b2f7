-- What saving leaves in the lent buffer.
use Rattle.std.specs.Prelude.{List, ℕ, take}
use Rattle.board.specs.declared.Answer.{Answer}

-- the file in the buffer: from its start, as many bytes as the answer says
abbrev pub file_in : List ℕ → Answer → List ℕ
file_in after r = take r.length after
