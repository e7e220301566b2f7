-- One duty d and those of a list that set a holding: what they can make of its sets, where none of them makes
-- a need of d wrong that no duty of another list mends; or one that does.
use Rattle.std.specs.Prelude.{◌≡◌, true, false, List, ℕ, get_or, Some, Result, Ok, Err}
use Rattle.orders.specs.Lists.{Mem, any}
use Rattle.asks.specs.declared.Ask.{Ask}
use Rattle.board.specs.declared.Duty.{Duty}
use Rattle.board.specs.declared.Serial.{Serial}
use Rattle.quick_criterion.specs.Tests.{makes_wrong}
use Rattle.troubles.specs.declared.pairs.Reach.{Reach}
use Rattle.troubles.specs.Reaching.{reach_of}

abbrev pub Weighed : List ℕ → Duty → Ask → List Duty → List Duty → Result Reach Serial → Type 0
Weighed sets d ask setting mending (Ok reach) =
    (reach ≡ reach_of d ask (get_or sets d.doer 0) (get_or sets ask.target 0) setting)
    × (any (makes_wrong mending d (Some ask)) setting ≡ false)
Weighed sets d ask setting mending (Err spoiler) =
    (x : Duty) × Mem x setting × (spoiler.0 ≡ x.serial.0) × (makes_wrong mending d (Some ask) x ≡ true)
