-- Pairs of numbers.
use Rattle.std.specs.Prelude.{ℕ, ◌+◌, ◌*◌}

-- a pair of numbers as one number
abbrev pub join : ℕ → ℕ → ℕ
join a b = a * 65536 + b
