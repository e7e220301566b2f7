-- Sets of roles as numbers: bit r of the number says whether role r is in the set. What a set holds once
-- a role was put in or taken out is proved in proofs/Laws.antt.
use Rattle.std.specs.Prelude.{Bool, cond, ℕ, ◌*◌, ◌/◌, ◌%◌, ◌^◌, eqb, ltb}
use Rattle.std.specs.Int.Bits.{bit_or, bit_xor}

-- how many roles a set has room for: the width of its number in bits
abbrev pub width : ℕ
width = 32

-- the role is in the set
abbrev pub in_set : ℕ → ℕ → Bool
in_set set role = eqb (set / 2 ^ role % 2) 1

-- the set with the role, and the set without it; a role that has no place in a set changes nothing
unfoldable pub with_role : ℕ → ℕ → ℕ
with_role set role = cond (ltb role width) (bit_or set (1 * 2 ^ role)) set

unfoldable pub without_role : ℕ → ℕ → ℕ
without_role set role = cond (ltb role width) (bit_xor (bit_or set (1 * 2 ^ role)) (1 * 2 ^ role)) set
