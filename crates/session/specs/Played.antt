-- A session played: the whole records behind its board file, each once and in turn, on the live board.
-- docs/REPLAY.md.
use Rattle.std.specs.Prelude.{◌≡◌, List, [], ◌∷◌, ℕ, zero, suc, ◌-◌, ◌/◌, length, take, drop, Result}
use Rattle.board.specs.declared.Board.{Board}
use Rattle.board.specs.declared.Refusal.{Refusal}
use Rattle.outcomes.specs.declared.Accepted.{Accepted}
use Rattle.outcomes.specs.Outcomes.{board_left}
use Rattle.session.specs.declared.Record.{Record}
use Rattle.session.specs.Input.{file_start, file_end, record_at, lent_by}
use Rattle.session.specs.Pokes.{poked_board}
use Rattle.session.specs.Sessions.{Makes}

-- ---- what is read

-- the bytes of the board file
abbrev pub file_bytes : List ℕ → List ℕ
file_bytes s = drop (file_start s) (take (file_end s) s)

-- so many records of 32 bytes, one after the other
abbrev pub records_in : ℕ → List ℕ → List Record
records_in zero s = []
records_in (suc n) s = record_at s ∷ records_in n (drop 32 s)

-- the whole records behind the board file: an incomplete last one is none of them
abbrev pub records_of : List ℕ → List Record
records_of s = records_in ((length s - file_end s) / 32) (drop (file_end s) s)

-- ---- what it leaves

-- The call of the record r, lent a list as long as the record says, leaves this board value.
pub record LeftByCall (b : Board) (r : Record) (left : Board) : Type 0 where
  pub before : List ℕ
  pub after : List ℕ
  pub lent : length before ≡ lent_by r.lent
  pub result : Result Accepted Refusal
  pub makes : Makes b r before result after
  pub is : left ≡ board_left b result

-- The record r leaves this board value: a poke, the one with its number set; any other, what its call leaves.
pub record Turned (b : Board) (r : Record) (left : Board) : Type 0 where
  pub poked : r.kind ≡ 9 → left ≡ poked_board b r
  pub called : (r.kind ≡ 9 → ⊥) → LeftByCall b r left

-- These records, each once and in turn, leave this board value.
abbrev pub Played : Board → List Record → Board → Type 0
Played b [] left = left ≡ b
Played b (r ∷ records) left = (between : Board) × Turned b r between × Played between records left
