-- From what was found to the verdict. Where nothing makes a good board red, the criterion does not say red
-- and the board is green; and where a duty gets stuck, the trail of the two duties, in order of start and cut
-- after the first that is not permitted, is a failing order.
use mathlib.Core.Path.{◌≡◌, refl, sym, ap, subst, ◌∙◌}
use mathlib.Core.Bool.{Bool, true}
use mathlib.Core.List.{List, [], ◌∷◌, ◌++◌}
use Rattle.std.specs.Prelude.{Option, None}
use Prim.Native.Nat.{ℕ, ◌≤◌, min}
use native.Mathlib.Omega.{arith}
use lib.ListN.{length, take, drop, length-map, length-take}
use lib.Seq.{take-length, length-take-le}
use Rattle.orders.specs.Lists.{Mem}
use Rattle.orders.specs.Needs.{Duties}
use Rattle.orders.specs.Orders.{World, Order, Pool, Failing}
use Rattle.orders.specs.Trails.{StuckBy, trail, cut_off}
use Rattle.orders.proofs.Fact.{fact}
use Rattle.orders.proofs.Lengths.{failing_length}
use Rattle.orders.proofs.Build.{same_serial}
use Rattle.orders.proofs.Lists.{at_cons}
use Rattle.orders.proofs.SameMembers.{stuck_same}
use Rattle.orders.proofs.Tests.{and_true}
use Rattle.orders.proofs.TrailFails.{trail_fails}
use Rattle.permitted.proofs.Laws.{holdings_view}
use Rattle.asks.specs.declared.Ask.{Ask}
use Rattle.asks.specs.Asks.{ask_of, AsksOf}
use Rattle.board.specs.declared.Board.{Board}
use Rattle.board.specs.declared.Duty.{Duty}
use Rattle.board.specs.Filler.{Sized}
use Rattle.board.specs.Good.{good}
use Rattle.board.specs.Green.{Green, duties_of, world_of}
use Rattle.board.specs.Limits.{max_duties}
use Rattle.board.specs.Permitted.{Holding, held_in}
use Rattle.board.specs.Told.{OrderTold}
use Rattle.board.specs.View.{View, view}
use Rattle.board.proofs.GoodLaws.{RecordsInRange, good→counts, good→records, good→filler, records→range}
use Rattle.board.proofs.PoolLaws.{duties_pool}
use Rattle.in_order.specs.InOrder.{by_keys, InOrder}
use Rattle.in_order.proofs.Allowed.{rising_order}
use Rattle.in_order.proofs.ByKeys.{in_order_alone}
use Rattle.trails.specs.Walking.{serials, InRange, OfThese, Written}
use Rattle.trails.proofs.Cutting.{trail_written}
use Rattle.troubles.specs.Troubles.{Stuck, Troubled}
use Rattle.quick_criterion.proofs.NotRed.{WithinLimits, good_limits, not_red}
use Rattle.troubles.proofs.StuckLaws.{nothing_found, stuck_by, stuck_open}

module _ (b : Board) (sized : Sized b) (is_good : good b ≡ true) where
  abbrev v : View
  v = view b

  abbrev n : ℕ
  n = b.counts.duties

  abbrev D : Duties
  D = duties_of v

  abbrev W : World
  W = world_of v

  abbrev s : Holding → Bool
  s = held_in b.holdings

  abbrev pool : List Duty
  pool = v.duties

  few : n ≤ max_duties
  few = (good→counts b is_good).duties

  in_range : RecordsInRange v
  in_range = records→range v (good→records b is_good)

  pool_right : Pool W pool
  pool_right = duties_pool v (good→records b is_good)

  limits : WithinLimits v pool
  limits = good_limits b is_good

  -- nobody beyond the users holds a role
  same_state : s ≡ held_in v.holdings
  same_state = holdings_view b (and_true _ _ (good→filler b is_good)).0

  -- what was looked up is what is asked for the open duties
  asked : (asks : List (Option Ask)) → AsksOf v pool (min (length pool) max_duties) asks
      → AsksOf v pool (length pool) asks
  asked asks right i h = right i (omega (arith, few, length-take n b.duties))

  -- there is room for all of them
  pub whole : take (min (length pool) max_duties) pool ≡ pool
  whole =
      let all : min (length pool) max_duties ≡ length pool = omega (arith, few, length-take n b.duties) in
      rw all (take-length pool)

  -- ---- nothing found

  pub nothing_green :
      (asks : List (Option Ask)) → AsksOf v pool (min (length pool) max_duties) asks
      → Troubled b.holdings pool asks None → Green v
  nothing_green asks right none =
      let found = nothing_found b.holdings v pool asks (asked asks right) none in
      rw same_state at ((fact D s pool pool_right).decided.1 (not_red b.holdings v pool limits found))

  -- where no duty is open none is in trouble
  pub none_green : length pool ≡ 0 → Green v
  none_green e =
      nothing_green
      []
      (λ i h. absurd (omega (arith, e, length-take n b.duties, h)))
      (λ i h. absurd (omega (arith, e, length-take n b.duties, h)))

  -- ---- a duty that gets stuck

  -- the keys are those of the open duties, in order of start
  module _
      (keys : List ℕ) (in_order : InOrder pool (length keys) keys) (all : take (length keys) pool ≡ pool)
      (x d : Duty) (open_x : Mem x pool) (open_d : Mem d pool) (stuck : StuckBy D s pool d x)
    where
      abbrev o : List Duty
      o = by_keys pool (length keys) keys

      ordered : Order W pool o
      ordered =
          let windows : (d : Duty) → Mem d pool → d.start ≤ d.end =
          λ d m. (in_range.duties.each d m).window in
          rising_order v pool o windows pool_right.distinct (rw all at in_order.same) in_order.rise

      -- the trail of the two, cut after the first duty that is not permitted
      abbrev cut : List Duty
      cut = cut_off W s (trail W o x d)

      cut_fails : Failing W s pool cut
      cut_fails =
          trail_fails D s pool pool_right o ordered d open_d x
          (stuck_same D s pool o (λ y. (ordered.every y, ordered.only y)) d x stuck)

      now_fails : Failing W (held_in v.holdings) pool cut
      now_fails = subst (λ (t : Holding → Bool). Failing W t pool cut) same_state cut_fails

      -- each key is that of an open duty
      theirs : OfThese pool keys
      theirs k h = rw all at (in_order.inside k (omega (arith, length-take (length keys) keys)))

      short : length cut ≤ max_duties
      short =
          omega (arith, few, failing_length W pool pool_right s cut cut_fails, length-take n b.duties)

      range : InRange (x ∷ (d ∷ o))
      range y =
          at_cons
          (λ e. rw e (limits.set x open_x))
          (at_cons (λ e. rw e (limits.set d open_d)) (λ m. limits.set y (ordered.only y m)))

      order_told :
          (spoiler stuck : ℕ) → x.serial.0 ≡ spoiler → d.serial.0 ≡ stuck → (asks : List (Option Ask))
          → AsksOf v pool (length pool) asks → (before after : List ℕ) (r : ℕ) → max_duties ≤ length before
          → Written pool asks keys b.holdings spoiler stuck before after r
          → OrderTold v before after r
      order_told spoiler stuck named_x named_d asks right before after r room walked =
          let long = length-map cut (λ (d : Duty). d.serial.0) in
          let written =
          trail_written v o x d b.holdings before sized.holdings range (omega (arith, short, room)) in
          let same =
          walked (ask_of v) x d right theirs
          (λ y z m k e. same_serial W pool pool_right.distinct m k e) open_x named_x open_d named_d in
          record {
            order = serials cut;
            failing = record { list = cut; named = refl; failing = now_fails };
            counted = same.1 ∙ written.1 ∙ sym long;
            list = same.0 ∙ written.0 ∙ ap (λ (k : ℕ). serials cut ++ drop k before) (sym long);
          }

  -- as `judge` finds it
  pub found_red :
      (asks : List (Option Ask)) → AsksOf v pool (min (length pool) max_duties) asks → (spoiler stuck : ℕ)
      → Stuck b.holdings pool asks spoiler stuck → (keys : List ℕ) → length keys ≡ max_duties
      → InOrder pool (min (length pool) max_duties) keys
      → (before after : List ℕ) (k : ℕ) → max_duties ≤ length before
      → Written pool asks (take (length pool) keys) b.holdings spoiler stuck before after k
      → OrderTold v before after k
  found_red asks right spoiler stuck found keys long in_order before after k room walked =
      let asked_pool = asked asks right in
      let most : length pool ≤ max_duties = omega (arith, few, length-take n b.duties) in
      let whole : min (length pool) max_duties ≡ length pool = omega arith in
      let fits : length pool ≤ length keys = omega arith in
      let many = length-take-le (length pool) keys fits in
      order_told (take (length pool) keys) (in_order_alone keys fits (rw whole at in_order))
      (rw many (take-length pool)) found.x found.d found.open_x (stuck_open found)
      (stuck_by b.holdings v pool asks asked_pool limits found)
      spoiler stuck (sym found.named_x) (sym found.named_d) asks asked_pool before after k room walked
