-- What the code's walk gives, over sets of roles as they stand in a board value. No promise of a call rests
-- on these words: that the walk finds what `first_failing_of` says is proved in proofs/Found.antt.
use Rattle.std.specs.Prelude.{Option, None, Some}
use Rattle.std.specs.Prelude.{List, [], ◌∷◌, ℕ, ◌+◌, length, set}
use Rattle.orders.specs.Needs.{met}
use Rattle.orders.specs.Orders.{World}
use Rattle.orders.specs.Plain.{first_failing}
use Rattle.board.specs.declared.Board.{Board}
use Rattle.board.specs.declared.Duty.{Duty}
use Rattle.board.specs.declared.Permission.{Permission}
use Rattle.board.specs.declared.Rule.{Rule}
use Rattle.board.specs.Permitted.{held_in, asked_for, needs, changed}
use Rattle.board.specs.View.{view}
use Rattle.board.specs.Windows.{wholly_before}

-- the duties under these permissions and rules, where a state is the table of the users' sets
abbrev pub sets_world : List Permission → List Rule → World
sets_world permissions rules =
    record {
      Duty = Duty;
      State = List ℕ;
      serial = λ d. d.serial.0;
      wholly_before = wholly_before;
      permitted = λ sets d. met (held_in sets) (needs d.doer (asked_for permissions rules d.what));
      after = λ sets d. changed sets d.what;
    }

-- what the walk finds on a board value where so many duties are left
abbrev pub walked : ℕ → Board → Option (List Duty)
walked left b =
    first_failing (sets_world (view b).permissions (view b).rules) left b.holdings (view b).duties

-- the list with the serials of these duties from a place on; nothing is written beyond its end
abbrev pub written : ℕ → List Duty → List ℕ → List ℕ
written at [] list = list
written at (d ∷ order) list = set (written (at + 1) order list) at d.serial.0

-- where an order is found, the place behind it, and the list with its serials from a place on; else the list
-- as it was
abbrev pub told : ℕ → List ℕ → Option (List Duty) → Option ℕ × List ℕ
told at list None = (None, list)
told at list (Some order) = (Some (at + length order), written at order list)
