-- The trail on which d gets stuck, cut after the first duty that is not permitted, is a failing order. Where
-- x is d itself, d stands on the trail twice; it is not permitted the first time, so the rest is cut off.
use mathlib.Core.Path.{◌≡◌, ap, ◌∙◌}
use mathlib.Core.Bool.{Bool, false}
use mathlib.Core.List.{List, [], ◌∷◌, ◌++◌}
use Rattle.orders.specs.Lists.{Mem, keep}
use Rattle.orders.specs.Orders.{World, Order, Pool, Failing, run}
use Rattle.orders.specs.Beginnings.{EndsStuck}
use Rattle.orders.specs.Needs.{Duties, Holdings, world, needed}
use Rattle.orders.specs.Criterion.{StaysWrong, MadeWrong}
use Rattle.orders.specs.Trails.{early, between, trail, cut_off, StuckBy, unruled, stays, made}
use Rattle.orders.proofs.Cuts.{stuck_at, cut_stuck}
use Rattle.orders.proofs.Failing.{ends→failing}
use Rattle.orders.proofs.Trails.{trail_first, trail_last}
use Rattle.orders.proofs.Criterion as criterion
use Rattle.orders.proofs.Decide.{stays_wrong_is, spoils_is}

-- where x is not permitted, the trail is cut there
pub trail_cut :
    (W : World) (s : W.State) (o : List W.Duty) (x d : W.Duty)
    → W.permitted (run W s (keep (early W x d) o)) x ≡ false
    → cut_off W s (trail W o x d) ≡ cut_off W s (keep (early W x d) o ++ (x ∷ []))
trail_cut W s o x d e =
    ap (cut_off W s) (trail_first W o x d)
    ∙ cut_stuck
    W
    s
    (keep (early W x d) o ++ (x ∷ []))
    (keep (between W x d) o ++ (d ∷ []))
    (stuck_at W s (keep (early W x d) o) x [] e)

-- ---- it fails

module _
    (D : Duties) (s : Holdings D) (pool : List D.Duty) (P : Pool (world D) pool) (o : List D.Duty)
    (ord : Order (world D) pool o) (d : D.Duty) (open_d : Mem d pool)
  where
    open D use {Duty, Holding}

    -- o has the members of the pool
    stays_open : (h : Holding) (p : Bool) → StaysWrong D s o d h p → StaysWrong D s pool d h p
    stays_open h p w = record { now = w.now; unset = λ g m. w.unset g (ord.every g m) }

    alone :
        EndsStuck (world D) s pool (keep (early (world D) d d) o) d
        → Failing (world D) s pool (cut_off (world D) s (trail (world D) o d d))
    alone e = rw (trail_cut (world D) s o d d e.stuck) (ends→failing (world D) s pool P _ d e)

    spoiled :
        (h : Holding) (p : Bool) → Mem (h, p) (needed (D.asks d)) → (w : MadeWrong D o d h p)
        → Failing (world D) s pool (cut_off (world D) s (trail (world D) o w.x d))
    spoiled h p need w =
        rw
        (trail_last (world D) o w.x d)
        (ends→failing (world D) s pool P _ d (criterion.made D s pool P o ord d open_d h p need w'))
      where
        w' : MadeWrong D pool d h p
        w' =
            record {
              x = w.x;
              open_x = ord.only w.x w.open_x;
              other = w.other;
              wrong = w.wrong;
              late = w.late;
              unset = λ g m. w.unset g (ord.every g m);
            }

    pub trail_fails :
        (x : Duty) → StuckBy D s o d x → Failing (world D) s pool (cut_off (world D) s (trail (world D) o x d))
    trail_fails x (unruled q e) = rw q (alone (criterion.no_rule_lem D s pool P o ord d open_d e))
    trail_fails x (stays h p need q e) =
        let w = stays_open h p (stays_wrong_is D o d h p s e) in
        rw q (alone (criterion.stays D s pool P o ord d open_d h p need w))
    trail_fails x (made h p need m e) =
        let (w, q) = spoils_is D o d h p x m e in
        rw q at (spoiled h p need w)
