-- That `decimal` gives the decimal digits of every number of 64 bits: each byte is a digit, they read back as
-- the number, and no zero stands in front of them. By the number of digits.
use mathlib.Core.Path.{◌≡◌, refl}
use mathlib.Core.Logic.{⊎_elim}
use mathlib.Core.List.{List, [], ◌∷◌, ◌++◌}
use mathlib.Core.List.Memᴰ
use mathlib.Core.List.{Memᴰ}
use Prim.Native.Nat.{ℕ, ◌+◌, ◌-◌, ◌*◌, ◌/◌, ◌%◌, ◌^◌, ◌≤◌, ◌<◌}
use native.Mathlib.Omega.{arith}
use lib.ListN.{get_or}
use Rattle.std.proofs.lemmas.Fmt.{decimal_by_steps}
use Rattle.line.specs.Line.{decimal}
use Rattle.line.proofs.NumberLaws.{same_decimal}

-- digits read from the first to the last, after a number that was read before them
abbrev pub read : ℕ → List ℕ → ℕ
read n [] = n
read n (d ∷ l) = read (n * 10 + (d - 48)) l

pub record Decimal (n : ℕ) (l : List ℕ) : Type 0 where
  pub each : (d : ℕ) → Memᴰ d l → (48 ≤ d) × (d ≤ 57)
  pub whole : read 0 l ≡ n
  pub front : 1 ≤ n → 49 ≤ get_or l 0 0

read_last : (n : ℕ) (l : List ℕ) (d : ℕ) → read n (l ++ (d ∷ [])) ≡ read n l * 10 + (d - 48)
read_last n [] d = refl
read_last n (e ∷ l) d = read_last (n * 10 + (e - 48)) l d

same_front : (l m : List ℕ) → 49 ≤ get_or l 0 0 → 49 ≤ get_or (l ++ m) 0 0
same_front [] m h = absurd (omega arith)
same_front (d ∷ l) m h = h

last_each : (n : ℕ) → n < 10 → (d : ℕ) → Memᴰ d ((48 + n) ∷ []) → (48 ≤ d) × (d ≤ 57)
last_each n h d m = let e : d ≡ 48 + n = Memᴰ.eq_of_singleton m in (omega arith, omega arith)

one_digit : (n : ℕ) → n < 10 → Decimal n ((48 + n) ∷ [])
one_digit n h =
    record {
      each = last_each n h;
      whole = omega arith;
      front = λ p. omega arith;
    }

more_digits : (n : ℕ) (l : List ℕ) → 10 ≤ n → Decimal (n / 10) l → Decimal n (l ++ ((48 + n % 10) ∷ []))
more_digits n l h p =
    record {
      each = λ d m. ⊎_elim (p.each d) (last_each (n % 10) (omega arith) d) (Memᴰ.append_cases l m);
      whole = omega (arith, read_last 0 l (48 + n % 10), p.whole);
      front = λ q. same_front l ((48 + n % 10) ∷ []) (p.front (omega arith));
    }

pub decimal_is : (n : ℕ) → n < 2 ^ 64 → Decimal n (decimal n)
decimal_is n h = rw (same_decimal n h) (decimal_by_steps Decimal one_digit more_digits n h)
