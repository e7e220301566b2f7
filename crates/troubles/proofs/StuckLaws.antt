-- What the answer of the search is worth: where nothing is found, no duty of the pool is in trouble; and
-- where a duty gets stuck by the tests, it gets stuck by the criterion of crate orders. `asks` are what is
-- asked for the duties of the pool, place by place.
use mathlib.Core.Path.{◌≡◌, sym, ap, ◌∙◌}
use mathlib.Core.Logic.{⊎_elim}
use mathlib.Core.Bool.{Bool, true, false, not}
use mathlib.Core.List.{List}
use Rattle.std.specs.Prelude.{Option, None}
use Prim.Native.Nat.{ℕ, ◌<◌}
use native.Mathlib.Omega.{arith}
use lib.ListN.{length, get_or, take, length-take}
use lib.Seq.{take-length, get_or-take}
use Rattle.orders.specs.Criterion.{stays_wrong}
use Rattle.orders.specs.Lists.{Mem, any}
use Rattle.orders.specs.Needs.{Duties, ruled, needed}
use Rattle.orders.specs.Trails.{StuckBy, unruled, stays, made}
use Rattle.orders.proofs.Lists.{any_true}
use Rattle.orders.proofs.Loops.{take_mem, mem_take}
use Rattle.orders.proofs.Tests.{or_true, not_true, not_false}
use Rattle.board.specs.declared.Duty.{Duty}
use Rattle.board.specs.Filler.{no_duty}
use Rattle.board.specs.Green.{duties_of}
use Rattle.board.specs.Permitted.{Holding, held_in}
use Rattle.board.specs.View.{View}
use Rattle.asks.specs.declared.Ask.{Ask}
use Rattle.asks.specs.Asks.{ask_of, AsksOf}
use Rattle.quick_criterion.specs.Tests.{can_be_met, makes_wrong, in_trouble}
use Rattle.troubles.specs.Troubles.{Stuck, Troubled}
use Rattle.quick_criterion.proofs.Alone.{alone_at, can_be_met_alone}
use Rattle.quick_criterion.proofs.NotRed.{WithinLimits}
use Rattle.quick_criterion.proofs.Spoiled.{spoiled_need}

-- what is asked for the first n duties of an array is what is asked for a pool of these
pub first_asks :
    (v : View) (duties : List Duty) (n : ℕ) (asks : List (Option Ask)) → AsksOf v duties n asks
    → AsksOf v (take n duties) (length (take n duties)) asks
first_asks v duties n asks right i h =
    let k : i < n = omega (arith, length-take n duties) in
    rw (get_or-take n duties i no_duty k) (right i k)

-- the duty that was found is open
pub stuck_open :
    {sets : List ℕ} {pool : List Duty} {asks : List (Option Ask)} {spoiler stuck : ℕ}
    (found : Stuck sets pool asks spoiler stuck) → Mem found.d pool
stuck_open {pool = pool} found =
    let h = found.inside in
    let m = take_mem pool (length pool) found.place no_duty h h in
    rw found.is_d (rw (take-length pool) at m)

module _ (sets : List ℕ) (v : View) (pool : List Duty) where
  abbrev D : Duties
  D = duties_of v

  abbrev s : Holding → Bool
  s = held_in sets

  -- ---- a duty in trouble

  module _ (limits : WithinLimits v pool) (d : Duty) (open_d : Mem d pool) where
    alone : (x : Duty) → x ≡ d → can_be_met sets pool d (ask_of v d) ≡ false → StuckBy D s pool d x
    alone x is e =
        ⊎_elim
        (λ t. unruled is (not_true (ruled (D.asks d)) t))
        (λ t. let (n, m, w) = any_true wrong (needed (D.asks d)) t in stays n.0 n.1 m is w)
        (or_true (not (ruled (D.asks d))) (any wrong (needed (D.asks d))) red)
      where
        wrong : Holding × Bool → Bool
        wrong n = stays_wrong D s pool d n.0 n.1

        red : alone_at D s pool d ≡ true
        red =
            not_false
            (alone_at D s pool d)
            (sym (can_be_met_alone v.permissions v.rules sets pool d (limits.asked d open_d)) ∙ e)

    spoiled : (x : Duty) → Mem x pool → makes_wrong pool d (ask_of v d) x ≡ true → StuckBy D s pool d x
    spoiled x open_x e =
        let (n, m, w) = spoiled_need v.permissions v.rules pool d x (limits.set x open_x) e in
        made n.0 n.1 m open_x w

  -- ---- the answer

  module _ (asks : List (Option Ask)) (right : AsksOf v pool (length pool) asks) where
    -- where nothing is found, no duty is in trouble
    pub nothing_found :
        Troubled sets pool asks None → (d : Duty) → Mem d pool → in_trouble sets pool d (ask_of v d) ≡ false
    nothing_found none d m =
        let (i, h, k, is) = mem_take pool (length pool) no_duty (rw (← take-length pool) at m) in
        rw (right i h, is) at (none i h)

    -- the duty that was found gets stuck, by the one that was found with it
    pub stuck_by :
        {spoiler stuck : ℕ} → WithinLimits v pool → (found : Stuck sets pool asks spoiler stuck)
        → StuckBy (duties_of v) (held_in sets) pool found.d found.x
    stuck_by limits found =
        ⊎_elim
        (λ w. alone limits d (stuck_open found) found.x w.0 (rw same at w.1))
        (λ w. spoiled limits d (stuck_open found) found.x found.open_x (rw same at w))
        found.why
      where
        d : Duty
        d = found.d

        same : get_or asks found.place None ≡ ask_of v d
        same = right found.place found.inside ∙ ap (ask_of v) (sym found.is_d)
