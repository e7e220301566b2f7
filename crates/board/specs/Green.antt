-- The board as a world of the theory of orders, and with that when a board is green and what a failing order
-- of it is.
use Rattle.std.specs.Prelude.{◌≡◌, Bool, true, List, ◌∷◌, ◌++◌, ℕ}
use Rattle.orders.specs.Orders as orders
use Rattle.orders.specs.Orders.{World, Order, Permitted, run}
use Rattle.orders.specs.Needs.{Duties, met, world}
use Rattle.board.specs.declared.Duty.{Duty}
use Rattle.board.specs.declared.Permission.{Permission}
use Rattle.board.specs.declared.Rule.{Rule}
use Rattle.board.specs.declared.What.{What}
use Rattle.board.specs.Permitted.{Holding, same_holding, held_in, asked_for, needs, effect_of}
use Rattle.board.specs.View.{View}
use Rattle.board.specs.Windows.{wholly_before}

-- duties under these permissions and rules
abbrev pub duties_under : List Permission → List Rule → Duties
duties_under permissions rules =
    record {
      Duty = Duty;
      Holding = Holding;
      serial = λ d. d.serial.0;
      wholly_before = wholly_before;
      same = same_holding;
      asks = λ d. needs d.doer (asked_for permissions rules d.what);
      effect = λ d. effect_of d.what;
    }

abbrev pub duties_of : View → Duties
duties_of v = duties_under v.permissions v.rules

abbrev pub world_of : View → World
world_of v = world (duties_of v)

-- The doer may do this now.
abbrev pub permitted_now : View → ℕ → What → Bool
permitted_now v doer what = met (held_in v.holdings) (needs doer (asked_for v.permissions v.rules what))

-- In every order that the windows allow, and at each point in it, the next duty is permitted.
abbrev pub Green : View → Type 0
Green v = orders.Green (world_of v) (held_in v.holdings) v.duties

-- Definition 4 of source document 002 as it is printed, the empty prefix counted too: in every allowed order,
-- whatever comes next after duties that were permitted in turn is permitted. That it and Green agree is
-- proved in proofs/GreenLaws.antt.
abbrev pub Definition4 : View → Type 0
Definition4 v =
    (order : List Duty) → Order (world_of v) v.duties order
    → (earlier : List Duty) (next : Duty) (later : List Duty) → order ≡ earlier ++ (next ∷ later)
    → Permitted (world_of v) (held_in v.holdings) earlier
    → (world_of v).permitted (run (world_of v) (held_in v.holdings) earlier) next ≡ true

-- These serials are the beginning of an allowed order whose duties are all permitted in turn except the last.
abbrev pub FailingOrder : View → List ℕ → Type 0
FailingOrder v serials = orders.FailingSerials (world_of v) (held_in v.holdings) v.duties serials

-- Red: some failing order shows it. That a board which keeps the rules is green or red, and never both, is
-- proved in proofs/GreenLaws.antt.
abbrev pub Red : View → Type 0
Red v = (serials : List ℕ) × FailingOrder v serials
