-- Numbers in bytes, the low byte first: document 01, section Board file.
use Rattle.std.specs.Prelude.{◌≡◌, true, List, [], ◌∷◌, ◌++◌, ℕ, ◌+◌, ◌*◌, ◌/◌, ◌%◌, ltb, get_or}
use Rattle.orders.specs.Lists.{all}

-- every number of the list is a byte
abbrev pub AreBytes : List ℕ → Type 0
AreBytes s = all (λ byte. ltb byte 256) s ≡ true

-- the number in two bytes
abbrev pub two : List ℕ → ℕ → ℕ
two s at = get_or s at 0 + get_or s (at + 1) 0 * 256

-- the number in four bytes
abbrev pub four : List ℕ → ℕ → ℕ
four s at = two s at + two s (at + 2) * 65536

-- a number of 16 bits as two bytes
abbrev pub two_bytes : ℕ → List ℕ
two_bytes n = n % 256 ∷ n / 256 ∷ []

-- a number of 32 bits as four bytes
abbrev pub four_bytes : ℕ → List ℕ
four_bytes n = two_bytes (n % 65536) ++ two_bytes (n / 65536)

-- lists of bytes, one after the other
abbrev pub together : List (List ℕ) → List ℕ
together [] = []
together (bytes ∷ rest) = bytes ++ together rest
