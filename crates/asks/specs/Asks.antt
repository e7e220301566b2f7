-- What a duty asks, in one form for permissions and rules.
use Rattle.std.specs.Prelude.{◌≡◌, Bool, false, List, ℕ, ◌<◌, get_or, Option, None, Some}
use Rattle.board.specs.declared.Asked.{Asked}
use Rattle.board.specs.declared.Asked.TheVariants.{Unruled, Role, Meets}
use Rattle.board.specs.declared.Duty.{Duty}
use Rattle.board.specs.Filler.{no_duty}
use Rattle.board.specs.Permitted.{asked_for}
use Rattle.board.specs.View.{View}
use Rattle.asks.specs.declared.Ask.{Ask}

-- a permission asks no role of anybody but the doer
abbrev pub in_one_form : ℕ → Asked → Option Ask
in_one_form doer Unruled = None
in_one_form doer (Role role) = Some (record { actor = role; target = doer; wanted = 0; barred = 0 })
in_one_form doer (Meets target rule) =
    Some (record { actor = rule.actor; target = target; wanted = rule.wanted; barred = rule.barred })

-- something is asked, and it passes the test
abbrev pub asked_that : (Ask → Bool) → Option Ask → Bool
asked_that p None = false
asked_that p (Some ask) = p ask

-- what the permissions and rules ask for d
abbrev pub ask_of : View → Duty → Option Ask
ask_of v d = in_one_form d.doer (asked_for v.permissions v.rules d.what)

-- these are what `asked` says is asked for the first n duties, place by place
abbrev pub AskedBy : (Duty → Option Ask) → List Duty → ℕ → List (Option Ask) → Type 0
AskedBy asked duties n asks = (i : ℕ) → i < n → get_or asks i None ≡ asked (get_or duties i no_duty)

-- these are what the permissions and rules ask for them
abbrev pub AsksOf : View → List Duty → ℕ → List (Option Ask) → Type 0
AsksOf v = AskedBy (ask_of v)
