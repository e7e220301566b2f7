-- Doing duties in turn until one is not permitted, and writing their serials. That what is written is the
-- trail cut after that duty is proved in proofs/Cutting.antt.
use Rattle.std.specs.Prelude.{◌≡◌, Bool, true, false, not, ◌&&◌, ◌||◌, cond, Option, None, Some, Result, Ok, Err}
use Rattle.std.specs.Prelude.{List, [], ◌∷◌, ◌++◌, map, ℕ, ◌+◌, ◌<◌, eqb, leb, length, get_or, set}
use Rattle.orders.specs.Lists.{Mem, keep}
use Rattle.roles.specs.Roles.{in_set}
use Rattle.permitted.specs.Meets.{meets_sets}
use Rattle.asks.specs.declared.Ask.{Ask}
use Rattle.asks.specs.Asks.{asked_that, AskedBy}
use Rattle.board.specs.declared.Duty.{Duty}
use Rattle.board.specs.Filler.{no_duty}
use Rattle.board.specs.Good.{what_fits}
use Rattle.board.specs.Limits.{max_users, max_roles}
use Rattle.board.specs.Permitted.{changed}
use Rattle.board.specs.Windows.{wholly_before}
use Rattle.in_order.specs.InOrder.{place_in_key, by_keys}
use Rattle.trails.specs.declared.Stuck.{Stuck}

-- ---- the trail of x and d

-- y stands early in the trail of x and d (orders: early), or between the two (orders: between)
abbrev pub in_trail : Bool → Duty → Duty → Duty → Bool
in_trail late x d y =
    cond late (wholly_before x y && wholly_before y d)
    ((wholly_before y d || wholly_before y x) && not (wholly_before x y || eqb y.serial.0 x.serial.0))

-- what must come early, x, what lies between x and d, d (orders: trail)
abbrev pub trail_of : List Duty → Duty → Duty → List Duty
trail_of pool x d =
    keep (in_trail false x d) pool ++ (x ∷ (keep (in_trail true x d) pool ++ (d ∷ [])))

-- ---- a walk, with the list that it writes

-- who holds what by now, how many serials are written, and whether a duty was not permitted
pub record Walk : Type 0 where
  pub holdings : List ℕ
  pub length : ℕ
  pub stuck : Bool

abbrev pub walking : List ℕ → Result ℕ Stuck → List ℕ → Walk × List ℕ
walking sets (Ok n) list = (record { holdings = sets; length = n; stuck = false }, list)
walking sets (Err e) list = (record { holdings = sets; length = e.length; stuck = true }, list)

-- the sets of roles meet what is asked of the doer
abbrev pub meets_ask : List ℕ → ℕ → Option Ask → Bool
meets_ask sets doer =
    asked_that
    (λ ask.
    in_set (get_or sets doer 0) ask.actor
    && meets_sets (get_or sets ask.target 0) ask.wanted ask.barred)

-- A walk that is not stuck, with room in its list, does one duty more: it writes the serial and makes the
-- change; where the duty is not permitted, it makes no change and is stuck.
unfoldable pub do_one : Option Ask → Walk × List ℕ → Duty → Walk × List ℕ
do_one ask w y =
    let sets = w.0.holdings in
    let at = w.0.length in
    let permitted = meets_ask sets y.doer ask in
    cond (w.0.stuck || leb (length w.1) at) w (
      record {
        holdings = cond permitted (changed sets y.what) sets;
        length = at + 1;
        stuck = not permitted;
      },
      set w.1 at y.serial.0,
    )

-- these in turn; `asked` says what is asked for each
unfoldable pub do_all : (Duty → Option Ask) → Walk × List ℕ → List Duty → Walk × List ℕ
do_all asked w [] = w
do_all asked w (y ∷ l) = do_all asked (do_one (asked y) w y) l

-- what is asked for the duty of the k-th key
abbrev pub ask_at : List (Option Ask) → List ℕ → ℕ → Option Ask
ask_at asks keys k = get_or asks (place_in_key (get_or keys k 0)) None

-- these are what `asked` says is asked for the duties of an order, one after the other
abbrev pub AskedInTurn : (Duty → Option Ask) → List Duty → (ℕ → Option Ask) → Type 0
AskedInTurn asked order asks = (k : ℕ) → k < length order → asks k ≡ asked (get_or order k no_duty)

-- those duties of an order that pass the test were done
abbrev pub PartDone : List Duty → (ℕ → Option Ask) → (Duty → Bool) → Walk × List ℕ → Walk × List ℕ → Type 0
PartDone order asks passes before after =
    (asked : Duty → Option Ask) → AskedInTurn asked order asks
    → after ≡ do_all asked before (keep passes order)

-- a walk from these sets of roles
abbrev pub set_out : List ℕ → List ℕ → Walk × List ℕ
set_out sets list = (record { holdings = sets; length = 0; stuck = false }, list)

-- ---- what is written

-- the duty with this serial, and what is asked for it, at its place; or none has the serial
abbrev pub Found : List Duty → List (Option Ask) → ℕ → Option (Duty × Option Ask) → Type 0
Found duties asks serial None = (y : Duty) → Mem y duties → y.serial.0 ≡ serial → ⊥
Found duties asks serial (Some found) =
    (place : ℕ)
    × (place < length duties)
    × (found.0 ≡ get_or duties place no_duty)
    × (found.1 ≡ get_or asks place None)
    × (found.0.serial.0 ≡ serial)

-- what each of these duties is to do names a user and a role that a board can have
abbrev pub InRange : List Duty → Type 0
InRange l = (y : Duty) → Mem y l → what_fits max_users max_roles y.what ≡ true

-- each of the keys is that of one of these duties
abbrev pub OfThese : List Duty → List ℕ → Type 0
OfThese duties keys = (k : ℕ) → k < length keys → place_in_key (get_or keys k 0) < length duties

abbrev pub serials : List Duty → List ℕ
serials l = map (λ (d : Duty). d.serial.0) l

-- The trail of x and d was walked, the duties that have these serials, in the order of the keys: this is the
-- walk at its end, with the list.
abbrev pub Walked :
    List Duty → List (Option Ask) → List ℕ → List ℕ → ℕ → ℕ → List ℕ → Walk × List ℕ → Type 0
Walked duties asks keys sets spoiler stuck before w =
    (asked : Duty → Option Ask) (x d : Duty)
    → AskedBy asked duties (length duties) asks
    → OfThese duties keys
    → ((y z : Duty) → Mem y duties → Mem z duties → y.serial.0 ≡ z.serial.0 → y ≡ z)
    → Mem x duties → x.serial.0 ≡ spoiler → Mem d duties → d.serial.0 ≡ stuck
    → w ≡ do_all asked (set_out sets before) (trail_of (by_keys duties (length keys) keys) x d)

-- so the list is what the walk left in it, and r the number of serials written
abbrev pub Written :
    List Duty → List (Option Ask) → List ℕ → List ℕ → ℕ → ℕ → List ℕ → List ℕ → ℕ → Type 0
Written duties asks keys sets spoiler stuck before after r =
    (asked : Duty → Option Ask) (x d : Duty)
    → AskedBy asked duties (length duties) asks
    → OfThese duties keys
    → ((y z : Duty) → Mem y duties → Mem z duties → y.serial.0 ≡ z.serial.0 → y ≡ z)
    → Mem x duties → x.serial.0 ≡ spoiler → Mem d duties → d.serial.0 ≡ stuck →
    let w = do_all asked (set_out sets before) (trail_of (by_keys duties (length keys) keys) x d) in
    (after ≡ w.1) × (r ≡ w.0.length)
