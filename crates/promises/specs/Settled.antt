-- What a call's promise settles of two outcomes.
use Rattle.std.specs.Prelude.{◌≡◌, List, ℕ, take, drop}
use Rattle.board.specs.declared.Answer.{Answer}
use Rattle.board.specs.declared.Board.{Board}
use Rattle.board.specs.Numbers as answer

-- Two outcomes: the answers r and r', the board values left, the lent list before and after each.
pub record Settled (before after after' : List ℕ) (r r' : Answer) (left left' : Board) : Type 0 where
  pub number : r.number ≡ r'.number
  pub serial : r.serial.0 ≡ r'.serial.0
  pub board : left ≡ left'
  -- without 8 the outcomes are equal
  pub equal : (r.number ≡ answer.red → ⊥) → (r ≡ r') × (after ≡ after')
  -- with 8 they are equal once the orders at the start of the lists are
  pub chosen : take r.length after ≡ take r'.length after' → (r ≡ r') × (after ≡ after')
  -- and beyond each order the list is as it was
  pub beyond :
      r.number ≡ answer.red
      → (drop r.length after ≡ drop r.length before)
      × (drop r'.length after' ≡ drop r'.length before)
