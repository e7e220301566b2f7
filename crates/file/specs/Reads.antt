-- What reading a board file promises, for every byte string.
use Rattle.std.specs.Prelude.{◌≡◌, false, List, [], ◌∷◌, ◌++◌, map, ℕ, ◌-◌, ◌<◌, length, replicate}
use Rattle.std.specs.Prelude.{Result, Ok, Err}
use Rattle.board.specs.declared.Board.{Board}
use Rattle.board.specs.declared.Refusal.{Refusal}
use Rattle.board.specs.Answers.{Check, check, Answers}
use Rattle.board.specs.Filler.{no_permission, no_rule, no_duty, smallest_board}
use Rattle.board.specs.Good.{counts_fit}
use Rattle.board.specs.Limits.{max_users, max_permissions, max_rules, max_duties}
use Rattle.board.specs.Numbers as answer
use Rattle.board.specs.Permitted.{below}
use Rattle.board.specs.Refusals.{number_answered}
use Rattle.layout.specs.Bytes.{two}
use Rattle.layout.specs.Layout.{version, header_size, counts_of, clock_of, next_of, stated_total, longest}
use Rattle.layout.specs.Layout.{laid_out}
use Rattle.file.specs.Records.{holding_at, permission_at, rule_at, duty_at, fault_numbers, first_fault}

-- the checks of the header
abbrev pub header_checks : List ℕ → List Check
header_checks s =
    check answer.short (length s < header_size)
    ∷ (check answer.version (two s 0 ≡ version → ⊥)
    ∷ (check answer.count (counts_fit (counts_of s) (next_of s) ≡ false)
    ∷ (check answer.layout (laid_out s ≡ false)
    ∷ (check answer.long (longest < stated_total s) ∷ []))))

-- the checks of a fault: whether it is this one, for each number of a fault
abbrev pub fault_checks : ℕ → List Check
fault_checks fault = map (λ number. check number (fault ≡ number)) fault_numbers

-- the checks of the records: the first faulty one in file order decides
abbrev pub record_checks : List ℕ → List Check
record_checks s = fault_checks (first_fault s)

abbrev pub read_checks : List ℕ → List Check
read_checks s = header_checks s ++ record_checks s

-- n records, and filler in the rest of the room
abbrev pub filled : {A : Type 0} → (ℕ → A) → A → ℕ → ℕ → List A
filled at filler room n = map at (below n) ++ replicate (room - n) filler

-- exactly the board that the bytes say, with filler beyond each count
unfoldable pub board_of : List ℕ → Board
board_of s =
    record {
      counts = counts_of s;
      clock = clock_of s;
      next = record { 0 = next_of s };
      holdings = filled (holding_at s) 0 max_users (counts_of s).users;
      permissions = filled (permission_at s) no_permission max_permissions (counts_of s).permissions;
      rules = filled (rule_at s) no_rule max_rules (counts_of s).rules;
      duties = filled (duty_at s) no_duty max_duties (counts_of s).duties;
    }

-- The board that reading a file leaves: a refused one leaves the smallest board.
abbrev pub board_read : Result Board Refusal → Board
board_read (Ok b) = b
board_read (Err e) = smallest_board

-- The answer is the number of the first check that applies; an accepted file gives the board that it says, a
-- refused one the smallest board.
pub record Reads (s : List ℕ) (r : Result Board Refusal) : Type 0 where
  pub number : Answers (read_checks s) (number_answered r)
  pub accepted : number_answered r ≡ answer.done → board_read r ≡ board_of s
  pub refused : (number_answered r ≡ answer.done → ⊥) → board_read r ≡ smallest_board
