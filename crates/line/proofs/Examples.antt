-- Lines of document 01 as bytes, by computation: `no 3 2 1 3` of case 8, `yes 2` and `refused 19`.
use mathlib.Core.Path.{◌≡◌, refl}
use mathlib.Core.List.{List, [], ◌∷◌}
use Prim.Native.Nat.{ℕ}
use Rattle.board.specs.Answers.{plain_answer, red_answer}
use Rattle.board.specs.Numbers as answer
use Rattle.line.specs.Line.{decimal, line_of}

-- "no 3 2 1 3\n"; the lent list is longer than the failing order
red_line : line_of (red_answer 3) 3 (2 ∷ 1 ∷ 3 ∷ 7 ∷ [])
    ≡ 110 ∷ 111 ∷ 32 ∷ 51 ∷ 32 ∷ 50 ∷ 32 ∷ 49 ∷ 32 ∷ 51 ∷ 10 ∷ []
unfolding line_of decimal
red_line = refl

-- "yes 2\n", whatever stands in the lent list
done_line : (list : List ℕ) → line_of (plain_answer answer.done) 2 list ≡ 121 ∷ 101 ∷ 115 ∷ 32 ∷ 50 ∷ 10 ∷ []
unfolding line_of decimal
done_line list = refl

-- "refused 19\n", whatever the number of duties and the list
refused_line : (duties : ℕ) (list : List ℕ) → line_of (plain_answer answer.broken) duties list
    ≡ 114 ∷ 101 ∷ 102 ∷ 117 ∷ 115 ∷ 101 ∷ 100 ∷ 32 ∷ 49 ∷ 57 ∷ 10 ∷ []
unfolding line_of decimal
refused_line duties list = refl

-- zero has one digit, and the largest number of 64 bits has 20
zero_digits : decimal 0 ≡ 48 ∷ []
unfolding decimal
zero_digits = refl

largest_digits : decimal 18446744073709551615
    ≡ 49 ∷ 56 ∷ 52 ∷ 52 ∷ 54 ∷ 55 ∷ 52 ∷ 52 ∷ 48 ∷ 55 ∷ 51 ∷ 55 ∷ 48 ∷ 57 ∷ 53 ∷ 53 ∷ 49 ∷ 54 ∷ 49 ∷ 53 ∷ []
unfolding decimal
largest_digits = refl
