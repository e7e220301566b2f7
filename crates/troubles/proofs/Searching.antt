-- The outer loop of `trouble_of`: none of the first i duties is in trouble. The one at place i gets stuck, or
-- is not in trouble either.
use mathlib.Core.Path.{◌≡◌, refl}
use mathlib.Core.Logic.{inl, inr}
use mathlib.Core.Bool.{true, false}
use mathlib.Core.List.{List}
use Rattle.std.specs.Prelude.{Option, None, Some}
use Prim.Native.Nat.{ℕ, ◌+◌, ◌≤◌, ◌<◌}
use native.Mathlib.Omega.{arith}
use lib.Dec.{ltb}
use lib.ListN.{length, take, get_or}
use lib.Seq.{take_all}
use borrow.Author.Tests.{ltb-true, ltb-false}
use Rattle.orders.specs.Lists.{Mem, any}
use Rattle.orders.proofs.Loops.{take_mem}
use Rattle.orders.proofs.Tests.{by_test}
use Rattle.asks.specs.declared.Ask.{Ask}
use Rattle.board.specs.declared.Duty.{Duty}
use Rattle.board.specs.Filler.{no_duty}
use Rattle.quick_criterion.specs.Tests.{can_be_met, makes_wrong, in_trouble}
use Rattle.troubles.specs.Troubles.{Stuck, Troubled}

-- none of the first i duties of the pool is in trouble
pub record Quiet (sets : List ℕ) (pool : List Duty) (asks : List (Option Ask)) (i : ℕ) : Type 0 where
  pub none : (k : ℕ) → k < i → in_trouble sets pool (get_or pool k no_duty) (get_or asks k None) ≡ false

pub starts : (sets : List ℕ) (pool : List Duty) (asks : List (Option Ask)) → Quiet sets pool asks 0
starts sets pool asks = record { none = λ k h. absurd (omega arith) }

module _ (sets : List ℕ) (pool : List Duty) (asks : List (Option Ask)) (i : ℕ) where
  abbrev d : Duty
  d = get_or pool i no_duty

  abbrev ask : Option Ask
  ask = get_or asks i None

  -- the duty at place i
  module _ (h : i < length pool) where
    open_d : Mem d pool
    open_d =
        let whole : take (length pool) pool ≡ pool = take_all (length pool) pool (omega arith) in
        rw whole at (take_mem pool (length pool) i no_duty h h)

    -- it cannot be met
    alone : can_be_met sets pool d ask ≡ false → Stuck sets pool asks d.serial.0 d.serial.0
    alone e =
        record {
          place = i;
          inside = h;
          d = d;
          is_d = refl;
          named_d = refl;
          x = d;
          open_x = open_d;
          named_x = refl;
          why = inl (refl, e);
        }

    -- nothing is asked
    pub unasked : ask ≡ None → Stuck sets pool asks d.serial.0 d.serial.0
    unasked e = alone (rw e refl)

    -- something is asked that cannot be met
    pub unmet : {a : Ask} → ask ≡ Some a → can_be_met sets pool d (Some a) ≡ false
        → Stuck sets pool asks d.serial.0 d.serial.0
    unmet is e = alone (rw is e)

    -- a duty of the pool spoils it
    pub spoiled :
        {a : Ask} {spoiler : ℕ} → ask ≡ Some a
        → (x : Duty) × Mem x pool × (spoiler ≡ x.serial.0) × (makes_wrong pool d (Some a) x ≡ true)
        → Stuck sets pool asks spoiler d.serial.0
    spoiled is found =
        record {
          place = i;
          inside = h;
          d = d;
          is_d = refl;
          named_d = refl;
          x = found.0;
          open_x = found.1;
          named_x = found.2;
          why = inr (rw is found.3);
        }

    -- neither
    pub one_more :
        {a : Ask} → ask ≡ Some a → Quiet sets pool asks i → can_be_met sets pool d (Some a) ≡ true
        → any (makes_wrong pool d (Some a)) pool ≡ false → Quiet sets pool asks (i + 1)
    one_more is quiet met none = record { none = one }
      where
        one : (k : ℕ) → k < i + 1 → in_trouble sets pool (get_or pool k no_duty) (get_or asks k None) ≡ false
        one k l =
            by_test
            (ltb k i)
            (λ t. quiet.none k (ltb-true k i t))
            (λ f. let same : k ≡ i = omega (arith, ltb-false k i f) in rw (same, is, met, none))

  pub over : Quiet sets pool asks i → length pool ≤ i → Troubled sets pool asks None
  over quiet h k l = quiet.none k (omega arith)
