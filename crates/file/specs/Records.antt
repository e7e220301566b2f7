-- The records of a board file and their faults: 5 where a field is out of its range or spare is not zero,
-- then 7 where the start is after the end, then 6 where the record is not above the one before it; 0 is no
-- fault.
use Rattle.std.specs.Prelude.{Bool, true, ◌&&◌, ◌||◌, cond, List, [], ◌∷◌, ◌++◌, map}
use Rattle.std.specs.Prelude.{ℕ, zero, suc, ◌+◌, ◌-◌, ◌*◌, eqb}
use Rattle.board.specs.declared.Duty.{Duty}
use Rattle.board.specs.declared.Permission.{Permission}
use Rattle.board.specs.declared.Rule.{Rule}
use Rattle.board.specs.Doing.{what_of, second_fits}
use Rattle.board.specs.Good as g
use Rattle.board.specs.Numbers as answer
use Rattle.board.specs.Permitted.{below}
use Rattle.board.specs.Windows.{window_fits}
use Rattle.layout.specs.Bytes.{two, four}
use Rattle.layout.specs.Layout.{counts_of, next_of, holdings_from, permissions_from, rules_from, duties_from}
use Rattle.layout.specs.Layout.{holding_size, permission_size, rule_size, duty_size}

-- ---- what the bytes of one record say

abbrev pub holding_at : List ℕ → ℕ → ℕ
holding_at s i = four s (holdings_from + i * holding_size)

abbrev pub permission_at : List ℕ → ℕ → Permission
permission_at s i =
    let at = permissions_from (counts_of s) + i * permission_size in
    record { role = two s at; action = two s (at + 2); object = two s (at + 4) }

-- where a rule's record starts
abbrev pub rule_from : List ℕ → ℕ → ℕ
rule_from s i = rules_from (counts_of s) + i * rule_size

abbrev pub rule_at : List ℕ → ℕ → Rule
rule_at s i =
    let at = rule_from s i in
    record {
      kind = two s at;
      actor = two s (at + 2);
      role = two s (at + 4);
      wanted = four s (at + 8);
      barred = four s (at + 12);
    }

abbrev pub rule_spare : List ℕ → ℕ → ℕ
rule_spare s i = two s (rule_from s i + 6)

abbrev pub duty_from : List ℕ → ℕ → ℕ
duty_from s i = duties_from (counts_of s) + i * duty_size

abbrev pub duty_at : List ℕ → ℕ → Duty
duty_at s i =
    let at = duty_from s i in
    record {
      serial = record { 0 = four s at };
      doer = two s (at + 4);
      what = what_of (two s (at + 6)) (two s (at + 8)) (two s (at + 10));
      start = four s (at + 12);
      end = four s (at + 16);
    }

-- for a use, second is 0
abbrev pub second_fits_at : List ℕ → ℕ → Bool
second_fits_at s i = second_fits (two s (duty_from s i + 6)) (two s (duty_from s i + 10))

-- ---- the fault of one record

abbrev pub fault_of : Bool → Bool → Bool → ℕ
fault_of fits window above =
    cond fits (cond window (cond above answer.done answer.not_above) answer.window) answer.field

-- the numbers of faults, in the order in which a record is tried
abbrev pub fault_numbers : List ℕ
fault_numbers = answer.field ∷ answer.window ∷ answer.not_above ∷ []

-- the first record of a part has none before it
abbrev pub is_above : {A : Type 0} → (A → A → Bool) → (ℕ → A) → ℕ → Bool
is_above below at i = eqb i 0 || below (at (i - 1)) (at i)

abbrev pub holding_fault : List ℕ → ℕ → ℕ
holding_fault s i = fault_of (g.set_fits (counts_of s).roles (holding_at s i)) true true

abbrev pub permission_fault : List ℕ → ℕ → ℕ
permission_fault s i =
    fault_of (g.permission_fits (counts_of s).roles (permission_at s i)) true
    (is_above g.permission_below (permission_at s) i)

abbrev pub rule_fault : List ℕ → ℕ → ℕ
rule_fault s i =
    fault_of (g.rule_fits (counts_of s).roles (rule_at s i) && eqb (rule_spare s i) 0) true
    (is_above g.rule_below (rule_at s) i)

abbrev pub duty_fault : List ℕ → ℕ → ℕ
duty_fault s i =
    fault_of (g.duty_fits (counts_of s).users (counts_of s).roles (next_of s) (duty_at s i) && second_fits_at s i)
    (window_fits (duty_at s i)) (is_above g.duty_below (duty_at s) i)

-- ---- the first faulty record

-- the faults of all records, in file order
unfoldable pub faults : List ℕ → List ℕ
faults s =
    map (holding_fault s) (below (counts_of s).users)
    ++ (map (permission_fault s) (below (counts_of s).permissions)
    ++ (map (rule_fault s) (below (counts_of s).rules) ++ map (duty_fault s) (below (counts_of s).duties)))

-- one fault, or where it is none the other
abbrev pub or_later : ℕ → ℕ → ℕ
or_later zero rest = rest
or_later (suc fault) rest = suc fault

-- the first that is one; 0 where none is
abbrev pub first_one : List ℕ → ℕ
first_one [] = answer.done
first_one (fault ∷ rest) = or_later fault (first_one rest)

abbrev pub first_fault : List ℕ → ℕ
first_fault s = first_one (faults s)
