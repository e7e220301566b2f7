-- The criterion says red exactly where some allowed order gets stuck. If d is stuck, some need of d is wrong
-- when its turn comes. Either it was wrong from the start and nothing done before d set it right (a), or the
-- last duty to set it wrong is x, and nothing between x and d set it right (b). If the criterion says red,
-- the order is built: for (a), all that is wholly before d, then d; for (b), what is wholly before d or x and
-- need not follow x, then x, then what lies between x and d, then d.
use mathlib.Core.Path.{◌≡◌, refl}
use mathlib.Core.Logic.{inl, inr, ⊎_elim}
use mathlib.Core.Bool.{Bool, true, false, not, ◌||◌}
use mathlib.Core.List.Memᴰ
use mathlib.Core.List.{List, [], ◌∷◌, ◌++◌}
use Rattle.orders.specs.Lists.{Mem, here, keep, Pairwise}
use Rattle.orders.specs.Orders.{Order, MayFollow, Pool, run}
use Rattle.orders.specs.Beginnings.{Beginning, GetsStuck, EndsStuck}
use Rattle.orders.specs.Needs.{Duties, Holdings, world, change, met, ruled, needed, sets}
use Rattle.orders.specs.Criterion.{StaysWrong, MadeWrong, CanBeWrong, Red}
use Rattle.orders.specs.Trails.{early, between}
use Rattle.orders.proofs.Tests.{clash, clash_not, is_false, or_same, and_true}
use Rattle.orders.proofs.Lists.{
  keep_mem,
  pairwise_left,
  pairwise_right,
  pairwise_across,
  mid,
  at_mid,
}
use Rattle.orders.proofs.Build.{run_append, sort, sort_order}
use Rattle.orders.proofs.Early.{until_x}
use Rattle.orders.proofs.Trails.{before_last, trail_last, trail_beginning}
use Rattle.orders.proofs.Failing.{ends→gets}
use Rattle.orders.proofs.Needs.{
  met_ruled,
  met_need,
  Unmet,
  why_not,
  sets_it,
  wrong_stays,
  LastSet,
  NeverSet,
  why_wrong,
}

module _ (D : Duties) (s : Holdings D) (pool : List D.Duty) (P : Pool (world D) pool) where
  open D use {Duty, Holding, wholly_before, asks, effect}

  abbrev Spaced : List Duty → Type 0
  Spaced = Pairwise (MayFollow (world D))

  -- ---- an order that gets stuck: the criterion says red

  module _
      (earlier : List Duty) (d : Duty) (later : List Duty) (o : Order (world D) pool (earlier ++ (d ∷ later)))
    where
      -- what is wholly before d stands before it
      stands_before : (g : Duty) → Mem g pool → wholly_before g d ≡ true → Mem g earlier
      stands_before g m e =
          at_mid
          earlier
          (λ k. k)
          (λ q. clash (rw q at e) (P.irreflexive d (o.only d (mid earlier later))))
          (λ n. clash e ((pairwise_right _ earlier (d ∷ later) o.spaced).0 g n).1)
          (o.every g m)

      stays_wrong_lem : (h : Holding) (p : Bool) → NeverSet D h p s earlier → StaysWrong D s pool d h p
      stays_wrong_lem h p r = record { now = r.now; unset = λ g m e. r.unset g (stands_before g m e) }

      made_wrong_lem : (h : Holding) (p : Bool) → LastSet D h p earlier → MadeWrong D pool d h p
      made_wrong_lem h p r =
          record {
            x = r.x;
            open_x = open_x;
            other = apart.0;
            wrong = r.wrong;
            late = apart.1;
            unset = unset;
          }
        where
          x_earlier : Mem r.x earlier
          x_earlier = rw r.is (mid r.earlier r.later)

          open_x : Mem r.x pool
          open_x = o.only r.x (Memᴰ.append_left (d ∷ later) x_earlier)

          apart : MayFollow (world D) r.x d
          apart = pairwise_across _ earlier (d ∷ later) o.spaced x_earlier (here refl)

          spaced : Spaced (r.earlier ++ (r.x ∷ r.later))
          spaced = rw r.is at (pairwise_left _ earlier (d ∷ later) o.spaced)

          unset :
              (g : Duty) → Mem g pool → wholly_before r.x g ≡ true → wholly_before g d ≡ true
              → sets D g h p ≡ false
          unset g m e f =
              at_mid
              r.earlier
              (λ k. clash e (pairwise_across _ r.earlier (r.x ∷ r.later) spaced k (here refl)).1)
              (λ q. clash (rw q at e) (P.irreflexive r.x open_x))
              (r.unset g)
              (rw r.is at (stands_before g m f))

      can_be_wrong : Unmet (run (world D) s earlier) (asks d) → CanBeWrong D s pool d
      can_be_wrong u =
          record {
            holding = u.holding;
            value = u.value;
            need = u.need;
            why =
                ⊎_elim
                (λ r. inl (stays_wrong_lem u.holding u.value r))
                (λ r. inr (made_wrong_lem u.holding u.value r))
                (why_wrong D u.holding u.value s earlier u.wrong);
          }

  pub stuck→red : GetsStuck (world D) s pool → Red D s pool
  stuck→red g =
      record {
        d = g.d;
        open_d = g.order.only g.d (mid g.earlier g.later);
        why =
            ⊎_elim
            inl
            (λ u. inr (can_be_wrong g.earlier g.d g.later g.order u))
            (why_not (run (world D) s g.earlier) (asks g.d) g.stuck);
      }

  -- ---- the criterion says red: an order that gets stuck

  module _ (o : List Duty) (ord : Order (world D) pool o) (d : Duty) (open_d : Mem d pool) where
    -- all that is wholly before d, then d
    alone :
        met (run (world D) s (keep (early (world D) d d) o)) (asks d) ≡ false
        → EndsStuck (world D) s pool (keep (early (world D) d d) o) d
    alone e = record { begins = until_x (world D) pool P o ord d d open_d open_d; stuck = e }

    -- with no permission or rule, d is stuck after any list
    pub no_rule_lem : ruled (asks d) ≡ false → EndsStuck (world D) s pool (keep (early (world D) d d) o) d
    no_rule_lem e = alone (is_false _ (λ t. clash (met_ruled _ (asks d) t) e))

    module _ (h : Holding) (p : Bool) (need : Mem (h, p) (needed (asks d))) where
      -- the holding is wrong, so d is not permitted
      wrong_stuck : (s' : Holdings D) → s' h ≡ not p → met s' (asks d) ≡ false
      wrong_stuck s' e = is_false _ (λ t. clash_not p (met_need s' (asks d) h p t need) e)

      -- (a) nothing wholly before d sets it right
      pub stays :
          StaysWrong D s pool d h p → EndsStuck (world D) s pool (keep (early (world D) d d) o) d
      stays w = alone (wrong_stuck _ (wrong_stays D h p s earlies w.now unset))
        where
          earlies : List Duty
          earlies = keep (early (world D) d d) o

          unset : (g : Duty) → Mem g earlies → sets D g h p ≡ false
          unset g m =
              let (n, e) = keep_mem (early (world D) d d) o m in
              let (low, _) = and_true (wholly_before g d || wholly_before g d) _ e in
              w.unset g (ord.only g n) (or_same (wholly_before g d) low)

      -- (b) x sets it wrong, and nothing between x and d sets it right
      pub made : (w : MadeWrong D pool d h p) → EndsStuck (world D) s pool (before_last (world D) o w.x d) d
      made w = record { begins = begins; stuck = wrong_stuck _ wrong }
        where
          begins : Beginning (world D) pool (before_last (world D) o w.x d ++ (d ∷ []))
          begins =
              rw
              (trail_last (world D) o w.x d) at
              (trail_beginning (world D) pool P o ord w.x d w.open_x open_d w.other w.late)

          earlies : List Duty
          earlies = keep (early (world D) w.x d) o

          betweens : List Duty
          betweens = keep (between (world D) w.x d) o

          s' : Holdings D
          s' = run (world D) s earlies

          unset : (g : Duty) → Mem g betweens → sets D g h p ≡ false
          unset g m =
              let (n, e) = keep_mem (between (world D) w.x d) o m in
              let (after_x, before_d) = and_true (wholly_before w.x g) (wholly_before g d) e in
              w.unset g (ord.only g n) after_x before_d

          wrong : run (world D) s (earlies ++ (w.x ∷ betweens)) h ≡ not p
          wrong =
              rw
              (run_append (world D) s earlies (w.x ∷ betweens))
              (wrong_stays
              D
              h
              p
              (change D s' (effect w.x))
              betweens
              (sets_it D s' (effect w.x) h (not p) w.wrong)
              unset)

  pub red→stuck : Red D s pool → GetsStuck (world D) s pool
  red→stuck r = ⊎_elim (λ e. gets (no_rule_lem o ord r.d r.open_d e)) can r.why
    where
      o : List Duty
      o = sort (world D) pool

      ord : Order (world D) pool o
      ord = sort_order (world D) pool P

      gets : {l : List Duty} → EndsStuck (world D) s pool l r.d → GetsStuck (world D) s pool
      gets {l} = ends→gets (world D) s pool P l r.d

      can : CanBeWrong D s pool r.d → GetsStuck (world D) s pool
      can c =
          ⊎_elim
          (λ w. gets (stays o ord r.d r.open_d c.holding c.value c.need w))
          (λ w. gets (made o ord r.d r.open_d c.holding c.value c.need w))
          c.why
