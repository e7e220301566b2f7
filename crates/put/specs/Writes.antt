-- Bytes written by a writer: at its place, and it is then at the place after them.
use Rattle.std.specs.Prelude.{◌≡◌, List, ℕ, ◌+◌, ◌≤◌, length}
use Rattle.put.specs.declared.Writer.{Writer}
use Rattle.put.specs.Put.{Put}

-- there is room for so many bytes from the place on
abbrev pub HasRoom : ℕ → Writer → Type 0
HasRoom n w = w.at + n ≤ length w.room.now

-- the bytes are put at the place, and the writer is then at the place after them, over the same room
pub record Writes (bytes : List ℕ) (before after : Writer) : Type 0 where
  pub same_room : after.room.ghost_name ≡ before.room.ghost_name
  pub put : Put bytes before.room.now before.at after.room.now after.at

-- nothing is put, and the writer stays at its place
pub record WritesNothing (before after : Writer) : Type 0 where
  pub same_room : after.room.ghost_name ≡ before.room.ghost_name
  pub room : after.room.now ≡ before.room.now
  pub place : after.at ≡ before.at
