-- For a duty x the earliest end of a duty that can mend what it spoils, so that whether one does is told by
-- one comparison.
use Rattle.std.specs.Prelude.{◌&&◌, cond, List, [], ◌∷◌, ℕ, ltb}
use Rattle.board.specs.declared.Duty.{Duty}
use Rattle.board.specs.Windows.{wholly_before}
use Rattle.quick_criterion.specs.Tests.{undoes}

-- the last minute
abbrev pub last_minute : ℕ
last_minute = 4294967295

-- the lesser of `best` and the earliest end of a duty that undoes what x sets and that x is wholly before
unfoldable pub first_mend : Duty → ℕ → List Duty → ℕ
first_mend x best [] = best
first_mend x best (g ∷ l) =
    first_mend x
    (cond ((wholly_before x g && undoes g.what x.what) && ltb g.end best) g.end best) l
