-- Duties that need holdings and set at most one: what a duty asks, when that is met, what it sets.
use Rattle.std.specs.Prelude.{Bool, true, false, ◌&&◌, cond, List, [], ℕ}
use Rattle.std.specs.Bool.{beq}
use Rattle.std.specs.Prelude.{Option, None, Some}
use Rattle.orders.specs.Lists.{all}
use Rattle.orders.specs.Orders.{World}

-- What the duties are. A need is a holding and whether it is to be held (true) or not (false).
pub record Duties : Type 1 where
  pub Duty : Type 0
  pub Holding : Type 0
  pub serial : Duty → ℕ
  pub wholly_before : Duty → Duty → Bool
  pub same : Holding → Holding → Bool
  -- what a duty needs; none where there is no permission or rule for it
  pub asks : Duty → Option (List (Holding × Bool))
  -- the holding that it sets, and to what
  pub effect : Duty → Option (Holding × Bool)

module _ {H : Type 0} where
  -- there is a permission or rule
  abbrev pub ruled : Option (List (H × Bool)) → Bool
  ruled None = false
  ruled (Some needs) = true

  -- the needs; none where there is no permission or rule
  abbrev pub needed : Option (List (H × Bool)) → List (H × Bool)
  needed None = []
  needed (Some needs) = needs

  -- there is a permission or rule, and who holds what meets every need
  abbrev pub met : (H → Bool) → Option (List (H × Bool)) → Bool
  met s None = false
  met s (Some needs) = all (λ n. beq (s n.0) n.1) needs

module _ (D : Duties) where
  open D use {Duty, Holding, serial, wholly_before, same, asks, effect}

  -- who holds what
  abbrev pub Holdings : Type 0
  Holdings = Holding → Bool

  abbrev pub change : Holdings → Option (Holding × Bool) → Holdings
  change s None h = s h
  change s (Some e) h = cond (same e.0 h) e.1 (s h)

  -- the world of these duties
  abbrev pub world : World
  world =
      record {
        Duty = Duty;
        State = Holdings;
        serial = serial;
        wholly_before = wholly_before;
        permitted = λ s d. met s (asks d);
        after = λ s d. change s (effect d);
      }

  -- the effect sets this holding to this value
  abbrev pub sets_to : Option (Holding × Bool) → Holding → Bool → Bool
  sets_to None h p = false
  sets_to (Some e) h p = same e.0 h && beq e.1 p

  abbrev pub sets : Duty → Holding → Bool → Bool
  sets d = sets_to (effect d)
