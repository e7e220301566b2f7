-- The fields of a request that say who is to do what, and the duty that an admission asks for.
use Rattle.std.specs.Prelude.{Bool, ◌&&◌, ℕ, ltb}
use Rattle.board.specs.After.{NewDuty}
use Rattle.board.specs.Doing.{what_of, second_fits}
use Rattle.board.specs.Good.{what_fits}
use Rattle.requests.specs.declared.RequestAdmit.{RequestAdmit}

-- every field is in its range, and the second of a use is 0 (else 11)
abbrev pub doing_fits : ℕ → ℕ → ℕ → ℕ → ℕ → ℕ → Bool
doing_fits users roles doer action first second =
    ltb doer users && (what_fits users roles (what_of action first second) && second_fits action second)

-- the duty asked for
abbrev pub asked : RequestAdmit → NewDuty
asked q =
    record {
      doer = q.doer;
      what = what_of q.action q.first q.second;
      start = q.start;
      end = q.end;
    }
