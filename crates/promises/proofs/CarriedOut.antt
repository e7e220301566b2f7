-- If no open window is over, in each allowed order, each duty done at the earliest minute its window and the
-- clock permit, all are accepted and none is left. The idea: the theory carries the order out by the clock;
-- at each of its steps no check of do applies, and it goes on with the board that do's promise names.
use mathlib.Core.Path.{◌≡◌, refl, sym, ap, subst, ◌∙◌}
use mathlib.Core.Bool.{true}
use mathlib.Core.List.{List, [], ◌∷◌}
use native.Mathlib.Omega.{arith}
use lib.Dec.{leb}
use borrow.Author.Tests.{ltb-false, le-leb}
use Rattle.orders.specs.Orders.{Order}
use Rattle.orders.specs.Clock as clock
use Rattle.orders.proofs.Clock.{carried_out}
use Rattle.orders.proofs.Tests.{clash, and_both}
use Rattle.board.specs.declared.Answer.{Answer}
use Rattle.board.specs.declared.Board.{Board}
use Rattle.board.specs.declared.Duty.{Duty}
use Rattle.board.specs.Answers.{done_answer, NoneApplies}
use Rattle.board.specs.Green.{world_of}
use Rattle.board.specs.Numbers as answer
use Rattle.board.specs.Open.{OpenWith}
use Rattle.board.specs.Permitted.{held_in}
use Rattle.board.specs.Saying.{board_saying}
use Rattle.board.specs.View.{View, view}
use Rattle.board.specs.Windows.{in_window}
use Rattle.board.proofs.AnswersLaws.{none_done, then_second}
use Rattle.board.proofs.PoolLaws.{duty_window}
use Rattle.board.proofs.SayingLaws.{ViewFits, view_saying}
use Rattle.board.proofs.ToldLaws.{untouched}
use Rattle.do_duty.specs.Does.{do_checks, after_do, Does}
use Rattle.promises.specs.Calls.{do_duty}
use Rattle.promises.specs.GoodAndGreen.{Whole, GoodAndGreen}
use Rattle.promises.specs.InTurn.{NoneOver, earliest_do, DoneInTurn, CanBeDone}
use Rattle.promises.proofs.AfterCalls.{whole_fits, after_fits}
use Rattle.promises.proofs.DidLaws.{pool, of_named, did_held}
use Rattle.promises.proofs.StaysGreen.{step_whole}

-- the theory carries this order out on what the board says: the last minute of a duty is its end
abbrev CarriedFrom : View → List Duty → Type 0
CarriedFrom v order =
    clock.CarriedOut (world_of v) (λ d. d.start) (λ d. d.end) v.clock (held_in v.holdings) v.duties
    order

-- ---- one step

module _
    (b : Board) (w : Whole b) (d : Duty) (order : List Duty) (c : CarriedFrom (view b) (d ∷ order))
  where
    abbrev v : View
    v = view b

    fits : ViewFits v
    fits = whole_fits b w

    -- what holds of the duty with d's serial holds of d
    of_d : (Holds : Duty → Type 0) → OpenWith v d.serial.0 Holds → Holds d
    of_d = of_named v fits d c.3.open_d d.serial.0 refl

    in_window_lem : in_window (earliest_do b d).clock d ≡ true
    in_window_lem =
        and_both (leb d.start (earliest_do b d).clock) (leb (earliest_do b d).clock d.end)
        (le-leb d.start (earliest_do b d).clock (omega (arith, c.1, c.2)))
        (le-leb (earliest_do b d).clock d.end (omega (arith, c.1, c.2)))

    -- no check of do applies
    none_applies : NoneApplies (do_checks b (earliest_do b d))
    none_applies = (
      λ e. clash w.is_good e,
      (
        λ h. omega (arith, c.0),
        (
          λ f. f d c.3.open_d refl,
          (
            λ o. clash in_window_lem (of_d _ o),
            (
              λ o. let h = of_d _ o in clash h.before (c.3.free h.other h.open_other),
              (λ o. clash c.4 (of_d _ o), tt),
            ),
          ),
        ),
      ),
    )

    -- the theory goes on with the board after
    goes_on : CarriedFrom (after_do b (earliest_do b d)) order
    goes_on = rw (did_held v fits (earliest_do b d).clock d c.3.open_d) c.5

    -- the board that the promise names, with the answer done, keeps it
    pub keeps : Does b (earliest_do b d) (done_answer 0) (board_saying (after_do b (earliest_do b d)))
    keeps =
        record {
          number = then_second (do_checks b (earliest_do b d)) [] answer.done none_applies refl;
          accepted = λ e. (refl, refl);
          refused = λ f. absurd (f refl);
          told = untouched (after_do b (earliest_do b d)) [] answer.done (λ e. omega arith);
        }

    module _ (r : Answer) (left : Board) (k : Does b (earliest_do b d) r left) where
      pub accepted : r.number ≡ answer.done
      accepted = none_done (do_checks b (earliest_do b d)) r.number none_applies k.number

      left_says : view left ≡ after_do b (earliest_do b d)
      left_says =
          ap view (k.accepted accepted).0
          ∙ view_saying (after_do b (earliest_do b d)) (after_fits b w (do_duty (earliest_do b d)) none_applies)

      pub left_goes_on : CarriedFrom (view left) order
      left_goes_on = subst (λ (u : View). CarriedFrom u order) (sym left_says) goes_on

-- ---- every step

in_turn : (order : List Duty) (b : Board) → Whole b → CarriedFrom (view b) order → DoneInTurn b order
in_turn [] b w c = c
in_turn (d ∷ order) b w c =
    λ r left k. (
      accepted b w d order c r left k,
      in_turn order left (step_whole b (do_duty (earliest_do b d)) r left [] (k, refl) w)
          (left_goes_on b w d order c r left k),
    )

can_be : (order : List Duty) (b : Board) → Whole b → CarriedFrom (view b) order → CanBeDone b order
can_be [] b w c = c
can_be (d ∷ order) b w c =
    let left = board_saying (after_do b (earliest_do b d)) in
    let k = keeps b w d order c in (
      left,
      k,
      can_be order left (step_whole b (do_duty (earliest_do b d)) (done_answer 0) left [] (k, refl) w)
          (left_goes_on b w d order c (done_answer 0) left k),
    )

module _
    (b : Board) (g : GoodAndGreen b) (open_still : NoneOver b) (order : List Duty)
    (o : Order (world_of (view b)) (view b).duties order)
  where
    carried : CarriedFrom (view b) order
    carried =
        let fits = whole_fits b g.whole in
        carried_out (world_of (view b)) (λ d. d.start) (λ d. d.end) order b.clock
        (held_in (view b).holdings) (view b).duties (pool (view b) fits) g.green
        (duty_window (view b) fits.records) (λ d m. omega (arith, ltb-false d.end _ (open_still d m))) o

    -- If no open window is over, in each allowed order, each duty done at the earliest minute its window and
    -- the clock permit, all are accepted and none is left,
    pub all_done : DoneInTurn b order
    all_done = in_turn order b g.whole carried

    -- and it can be done.
    pub can_be_done : CanBeDone b order
    can_be_done = can_be order b g.whole carried
