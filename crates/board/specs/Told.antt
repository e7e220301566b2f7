-- What stands in the lent list after a call, and the length that its answer carries.
use Rattle.std.specs.Prelude.{◌≡◌, List, ◌++◌, ℕ, length, drop}
use Rattle.board.specs.declared.Answer.{Answer}
use Rattle.board.specs.Green.{FailingOrder}
use Rattle.board.specs.Numbers as answer
use Rattle.board.specs.View.{View}

-- the serials of a failing order stand at the start of the list, the rest of which is untouched; n is their
-- number
pub record OrderTold (v : View) (before after : List ℕ) (n : ℕ) : Type 0 where
  pub order : List ℕ
  pub failing : FailingOrder v order
  pub counted : n ≡ length order
  pub list : after ≡ order ++ drop (length order) before

-- With 8, a failing order of the board v; every other answer leaves the whole list untouched and carries
-- length 0.
pub record Told (v : View) (before after : List ℕ) (r : Answer) : Type 0 where
  pub red : r.number ≡ answer.red → OrderTold v before after r.length
  pub otherwise : (r.number ≡ answer.red → ⊥) → (after ≡ before) × (r.length ≡ 0)

-- with 8, both tell of one failing order
abbrev pub OneOrder :
    {v : View} {before after after' : List ℕ} {r r' : Answer} → Told v before after r
    → Told v before after' r' → Type 0
OneOrder {r = r} {r' = r'} p q =
    (e : r.number ≡ answer.red) (e' : r'.number ≡ answer.red) → (p.red e).order ≡ (q.red e').order
