-- What a call answers. Its checks are a list, in document 01's order, of a number and what it means; the
-- answer is the number of the first that applies, and 0 where none does.
use Rattle.std.specs.Prelude.{◌≡◌, ◌⊎◌, List, [], ◌∷◌, ℕ}
use Rattle.board.specs.declared.Answer.{Answer}
use Rattle.board.specs.Numbers as answer

pub record Check : Type 1 where
  pub number : ℕ
  pub applies : Type 0

abbrev pub check : ℕ → Type 0 → Check
check number applies = record { number = number; applies = applies }

abbrev pub Answers : List Check → ℕ → Type 0
Answers [] n = n ≡ answer.done
Answers (c ∷ cs) n = (c.applies × (n ≡ c.number)) ⊎ ((c.applies → ⊥) × Answers cs n)

-- no check of the list applies: a call is past these checks
abbrev pub NoneApplies : List Check → Type 0
NoneApplies [] = Unit {0}
NoneApplies (c ∷ cs) = (c.applies → ⊥) × NoneApplies cs

-- this number, no serial, no failing order
abbrev pub plain_answer : ℕ → Answer
plain_answer number = record { number = number; serial = record { 0 = 0 }; length = 0 }

-- done, with the serial of the duty that was admitted; 0 where none was
abbrev pub done_answer : ℕ → Answer
done_answer serial = record { number = answer.done; serial = record { 0 = serial }; length = 0 }

-- done, with so many bytes written
abbrev pub written_answer : ℕ → Answer
written_answer length = record { number = answer.done; serial = record { 0 = 0 }; length = length }

-- red, with a failing order of this length
abbrev pub red_answer : ℕ → Answer
red_answer length = record { number = answer.red; serial = record { 0 = 0 }; length = length }
