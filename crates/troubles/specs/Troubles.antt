-- What makes a board red, as the search for it answers. No promise of a call rests on these words.
use Rattle.std.specs.Prelude.{◌≡◌, ◌⊎◌, true, false, List, ℕ, ◌<◌, length, get_or, Option, None, Some}
use Rattle.orders.specs.Lists.{Mem}
use Rattle.asks.specs.declared.Ask.{Ask}
use Rattle.board.specs.declared.Duty.{Duty}
use Rattle.board.specs.Filler.{no_duty}
use Rattle.troubles.specs.declared.Trouble.{Trouble}
use Rattle.quick_criterion.specs.Tests.{can_be_met, makes_wrong, in_trouble}

-- The duty d of this serial, at its place of the pool, gets stuck: it cannot be met at all, and x is d; or x
-- makes a need of it wrong.
pub record Stuck (sets : List ℕ) (pool : List Duty) (asks : List (Option Ask)) (spoiler stuck : ℕ) : Type 0 where
  pub place : ℕ
  pub inside : place < length pool
  pub d : Duty
  pub is_d : d ≡ get_or pool place no_duty
  pub named_d : stuck ≡ d.serial.0
  pub x : Duty
  pub open_x : Mem x pool
  pub named_x : spoiler ≡ x.serial.0
  pub why :
      let ask = get_or asks place None in
      ((x ≡ d) × (can_be_met sets pool d ask ≡ false)) ⊎ (makes_wrong pool d ask x ≡ true)

-- no duty is in trouble, or the duty of one serial gets stuck, with that of another
abbrev pub Troubled : List ℕ → List Duty → List (Option Ask) → Option Trouble → Type 0
Troubled sets pool asks None =
    (i : ℕ) → i < length pool → in_trouble sets pool (get_or pool i no_duty) (get_or asks i None) ≡ false
Troubled sets pool asks (Some t) = Stuck sets pool asks t.spoiler.0 t.stuck.0
