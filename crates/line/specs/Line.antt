-- The line that is printed for an answer: document 01, section Small boards, last paragraph.
use Rattle.std.specs.Prelude.{cond, List, [], ◌∷◌, ◌++◌, ℕ, zero, suc, ◌+◌, ◌/◌, ◌%◌, min, eqb, ltb, take}
use Rattle.board.specs.declared.Answer.{Answer}
use Rattle.board.specs.Limits.{max_duties}
use Rattle.board.specs.Numbers as answer

-- the decimal digits of a number, in ASCII; k is a bound on how many there are
abbrev pub digits : ℕ → ℕ → List ℕ
digits zero n = []
digits (suc k) n = cond (ltb n 10) ((48 + n) ∷ []) (digits k (n / 10) ++ ((48 + n % 10) ∷ []))

-- a number of 64 bits has at most this many digits
abbrev pub max_digits : ℕ
max_digits = 20

-- the decimal digits of a number of 64 bits
unfoldable pub decimal : ℕ → List ℕ
decimal n = digits max_digits n

-- a number with a space before it takes at most this many bytes
abbrev pub max_number : ℕ
max_number = 1 + max_digits

-- each number with a space before it
abbrev pub numbers : List ℕ → List ℕ
numbers [] = []
numbers (n ∷ l) = 32 ∷ (decimal n ++ numbers l)

-- the words, in ASCII
abbrev pub yes : List ℕ
yes = 121 ∷ 101 ∷ 115 ∷ []

abbrev pub no : List ℕ
no = 110 ∷ 111 ∷ []

abbrev pub refused : List ℕ
refused = 114 ∷ 101 ∷ 102 ∷ 117 ∷ 115 ∷ 101 ∷ 100 ∷ []

-- the most bytes of a word
abbrev pub max_word : ℕ
max_word = 7

abbrev pub newline : List ℕ
newline = 10 ∷ []

-- `yes` and the number of duties; `no`, the length of the order and its serials; or `refused` and the number
unfoldable pub line_of : Answer → ℕ → List ℕ → List ℕ
line_of r duties list =
    cond (eqb r.number answer.done) (yes ++ (numbers (duties ∷ []) ++ newline))
    (cond (eqb r.number answer.red)
    (no ++ (numbers (r.length ∷ take (min r.length max_duties) list) ++ newline))
    (refused ++ (numbers (r.number ∷ []) ++ newline)))
