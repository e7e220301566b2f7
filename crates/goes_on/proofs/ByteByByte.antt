-- Sessions byte by byte, by computation, so that what is read is what docs/REPLAY.md says: a board file of
-- three bytes, an admission, a poke, and five bytes of an incomplete record, which is left out; fewer than
-- four bytes; and a board file that is said to be longer than the input.
use mathlib.Core.Path.{◌≡◌, refl}
use mathlib.Core.List.{List, [], ◌∷◌}
use Prim.Native.Nat.{ℕ}
use Rattle.session.specs.declared.Record.{Record}
use Rattle.session.specs.Played.{file_bytes, records_of}

abbrev session : List ℕ
session =
    -- how long the board file is, and its bytes
    3 ∷ 0 ∷ 0 ∷ 0 ∷ 7 ∷ 8 ∷ 9
    -- kind, lent, doer, action, first, second
    ∷ 0 ∷ 0 ∷ 128 ∷ 0 ∷ 1 ∷ 0 ∷ 2 ∷ 0 ∷ 3 ∷ 0 ∷ 0 ∷ 0
    -- start, end, clock, serial, extra
    ∷ 0 ∷ 1 ∷ 0 ∷ 0 ∷ 4 ∷ 1 ∷ 0 ∷ 0 ∷ 5 ∷ 0 ∷ 0 ∷ 0 ∷ 6 ∷ 0 ∷ 0 ∷ 0 ∷ 0 ∷ 0 ∷ 0 ∷ 0
    -- the same of the second record
    ∷ 9 ∷ 0 ∷ 0 ∷ 0 ∷ 0 ∷ 0 ∷ 0 ∷ 0 ∷ 7 ∷ 0 ∷ 1 ∷ 1
    ∷ 0 ∷ 0 ∷ 0 ∷ 0 ∷ 0 ∷ 0 ∷ 0 ∷ 0 ∷ 0 ∷ 0 ∷ 0 ∷ 0 ∷ 0 ∷ 0 ∷ 0 ∷ 0 ∷ 1 ∷ 2 ∷ 3 ∷ 4
    -- the first five bytes of a third
    ∷ 2 ∷ 0 ∷ 0 ∷ 0 ∷ 5
    ∷ []

abbrev admission : Record
admission =
    record {
      kind = 0;
      lent = 128;
      doer = 1;
      action = 2;
      first = 3;
      second = 0;
      start = 256;
      end = 260;
      clock = 5;
      serial = 6;
      extra = 0;
    }

abbrev poke : Record
poke =
    record {
      kind = 9;
      lent = 0;
      doer = 0;
      action = 0;
      first = 7;
      second = 257;
      start = 0;
      end = 0;
      clock = 0;
      serial = 0;
      extra = 67305985;
    }

pub two_records : (file_bytes session ≡ 7 ∷ 8 ∷ 9 ∷ []) × (records_of session ≡ admission ∷ poke ∷ [])
two_records = (refl, refl)

pub too_short : (file_bytes (3 ∷ 0 ∷ 7 ∷ []) ≡ []) × (records_of (3 ∷ 0 ∷ 7 ∷ []) ≡ [])
too_short = (refl, refl)

pub said_longer :
    (file_bytes (0 ∷ 1 ∷ 0 ∷ 0 ∷ 7 ∷ 8 ∷ []) ≡ 7 ∷ 8 ∷ [])
    × (records_of (0 ∷ 1 ∷ 0 ∷ 0 ∷ 7 ∷ 8 ∷ []) ≡ [])
said_longer = (refl, refl)
