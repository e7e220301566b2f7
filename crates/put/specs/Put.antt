-- Bytes put at a place of a room.
use Rattle.std.specs.Prelude.{◌≡◌, List, ◌++◌, ℕ, ◌+◌, ◌≤◌, length, take, drop}

-- these bytes are put at the place, nothing else is changed, and `next` is the place after them, in the room;
-- the room keeps its length
pub record Put (bytes before : List ℕ) (at : ℕ) (after : List ℕ) (next : ℕ) : Type 0 where
  pub list : after ≡ take at before ++ (bytes ++ drop (at + length bytes) before)
  pub place : next ≡ at + length bytes
  pub fits : next ≤ length before
  pub kept : length after ≡ length before
