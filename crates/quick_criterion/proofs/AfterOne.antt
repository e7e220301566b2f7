-- What one duty of a list makes of a set: nothing, if it is not wholly before d.
use mathlib.Core.Bool.{cond}
use Prim.Native.Nat.{ℕ}
use Rattle.board.specs.declared.Duty.{Duty}
use Rattle.board.specs.declared.What.{What}
use Rattle.board.specs.Windows.{wholly_before}

-- the set after one duty: `by` says what it makes of a set
abbrev pub after_one : (What → ℕ → ℕ) → Duty → Duty → ℕ → ℕ
after_one by d g set = cond (wholly_before g d) (by g.what set) set
