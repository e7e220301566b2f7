-- What the bytes of a session say: docs/REPLAY.md, section What is read. A byte past the end counts as 0.
use Rattle.std.specs.Prelude.{List, ℕ, ◌+◌, ◌-◌, min, length}
use Rattle.layout.specs.Bytes.{two, four}
use Rattle.session.specs.declared.Record.{Record}

-- the board file starts after the four bytes of its length, or at the end where fewer are there
abbrev pub file_start : List ℕ → ℕ
file_start s = min 4 (length s)

-- it is as long as these say, or as there are bytes
abbrev pub file_end : List ℕ → ℕ
file_end s = file_start s + min (four s 0) (length s - file_start s)

-- the record at the start of these bytes
abbrev pub record_at : List ℕ → Record
record_at s =
    record {
      kind = two s 0;
      lent = two s 2;
      doer = two s 4;
      action = two s 6;
      first = two s 8;
      second = two s 10;
      start = four s 12;
      end = four s 16;
      clock = four s 20;
      serial = four s 24;
      extra = four s 28;
    }

-- how many entries are lent to a call: as many as its record says, at most 256
abbrev pub lent_by : ℕ → ℕ
lent_by lent = min lent 256
