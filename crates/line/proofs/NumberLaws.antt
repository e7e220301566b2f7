-- Laws of decimal digits and of numbers with a space before each: how long they are, so that every line has
-- room, what one more number behind makes of them, and that the library writes these digits.
use mathlib.Core.Path.{◌≡◌, refl}
use mathlib.Core.Bool.{Bool, true, false, cond}
use mathlib.Core.List.{List, [], ◌∷◌, ◌++◌, append_assoc}
use Prim.Native.Nat.{ℕ, zero, suc, ◌+◌, ◌*◌, ◌/◌, ◌%◌, ◌^◌, ◌≤◌, ◌<◌}
use native.Mathlib.Numerals.{add-one}
use native.Mathlib.Omega.{arith}
use lib.Dec.{ltb}
use lib.ListN.{length, take, get_or, length-append, length-take}
use lib.Seq.{take-suc}
use borrow.Author.Rules.{rules}
use Rattle.std.specs.Fmt as Fmt
use Rattle.std.proofs.lemmas.Fmt.{AppendsLastDigit, decimal_from_appends, length-decimal-le}
use Rattle.line.specs.Line.{digits, max_digits, decimal, max_number, numbers}

-- ---- lengths

shorter : (b : Bool) (x y : List ℕ) (k : ℕ) → length x ≤ k → length y ≤ k → length (cond b x y) ≤ k
shorter true x y k h i = h
shorter false x y k h i = i

pub digits_length : (k n : ℕ) → length (digits k n) ≤ k
digits_length zero n = omega arith
digits_length (suc k) n =
    shorter (ltb n 10) ((48 + n) ∷ []) (digits k (n / 10) ++ ((48 + n % 10) ∷ [])) (suc k)
    (omega arith)
    (omega (arith, length-append (digits k (n / 10)) ((48 + n % 10) ∷ []), digits_length k (n / 10)))

pub decimal_length : (n : ℕ) → length (decimal n) ≤ max_digits
unfolding decimal
decimal_length n = digits_length max_digits n

pub numbers_length : (l : List ℕ) → length (numbers l) ≤ max_number * length l
numbers_length [] = omega arith
numbers_length (n ∷ l) =
    omega (arith, length-append (decimal n) (numbers l), decimal_length n, numbers_length l)

pub first_numbers_length : (n : ℕ) (l : List ℕ) → length (numbers (take n l)) ≤ max_number * n
first_numbers_length n l = omega (arith, numbers_length (take n l), length-take n l)

-- ---- the library's digits of a number of 64 bits

appends : AppendsLastDigit digits
appends = search rules

pub same_decimal : (n : ℕ) → n < 2 ^ 64 → decimal n ≡ Fmt.decimal n
unfolding decimal
same_decimal n h =
    let short = length-decimal-le max_digits n (omega arith) (omega arith) h in
    decimal_from_appends digits appends max_digits n h short

-- ---- one more number behind

numbers_append : (a b : List ℕ) → numbers (a ++ b) ≡ numbers a ++ numbers b
numbers_append [] b = refl
numbers_append (n ∷ a) b = rw (numbers_append a b) (simp append_assoc)

pub numbers_next : (l : List ℕ) (i : ℕ) → i < length l
    → numbers (take (i + 1) l) ≡ numbers (take i l) ++ numbers (get_or l i 0 ∷ [])
numbers_next l i h = rw (add-one, take-suc l i 0) (numbers_append (take i l) (get_or l i 0 ∷ []))
