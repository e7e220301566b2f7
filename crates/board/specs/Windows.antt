-- Windows and the clock: document 01, section Orders. Windows include both ends.
use Rattle.std.specs.Prelude.{Bool, ◌&&◌, ℕ, leb, ltb}
use Rattle.board.specs.declared.Duty.{Duty}

-- the start is not after the end
abbrev pub window_fits : Duty → Bool
window_fits d = leb d.start d.end

-- b is wholly before c: the end of b is less than the start of c
abbrev pub wholly_before : Duty → Duty → Bool
wholly_before b c = ltb b.end c.start

-- the clock lies in the window
abbrev pub in_window : ℕ → Duty → Bool
in_window clock d = leb d.start clock && leb clock d.end

-- the window is over: its end is below the clock
abbrev pub is_over : ℕ → Duty → Bool
is_over clock d = ltb d.end clock
