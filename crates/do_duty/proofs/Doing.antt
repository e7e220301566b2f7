-- The outcomes of do. The duty that the search found is the only open one with its serial, so what the
-- checks say of an open duty with this serial they say of it. An accepted do takes it out and makes its
-- change, which is the board value that says `did`.
use mathlib.Core.Path.{◌≡◌, refl, sym, ap, ◌∙◌, subst}
use mathlib.Core.Logic.{inl, inr}
use mathlib.Core.Bool.{Bool, true, false}
use mathlib.Core.List.{List, []}
use Prim.Native.Nat.{ℕ}
use native.Mathlib.Omega.{arith}
use lib.ListN.{drop}
use Rattle.orders.specs.Lists.{Mem, any}
use Rattle.orders.specs.Needs.{met}
use Rattle.orders.proofs.Build.{same_serial}
use Rattle.orders.proofs.Lists.{any_true, any_mem}
use Rattle.orders.proofs.Tests.{is_true, clash, and_true}
use Rattle.board.specs.declared.Board.{Board}
use Rattle.board.specs.declared.Duty.{Duty}
use Rattle.board.specs.declared.Refusal.{Refusal}
use Rattle.board.specs.After.{acted, withdrawn}
use Rattle.board.specs.Answers.{Check, Answers, done_answer, NoneApplies}
use Rattle.board.specs.Filler.{Sized}
use Rattle.board.specs.Good.{good, what_fits}
use Rattle.board.specs.Green.{world_of, permitted_now}
use Rattle.board.specs.Limits.{max_duties}
use Rattle.board.specs.Numbers as answer
use Rattle.board.specs.Open.{OpenWith}
use Rattle.board.specs.Permitted.{held_in, asked_for, needs}
use Rattle.board.specs.Refusals.{number_of, refused_answer}
use Rattle.board.specs.Saying.{board_saying}
use Rattle.board.specs.Told.{Told}
use Rattle.board.specs.View.{View, view}
use Rattle.board.specs.Windows.{wholly_before, in_window}
use Rattle.board.proofs.AnswersLaws.{done_none, refused_first, then_second, never_answered}
use Rattle.board.proofs.GoodLaws.{good→records, good→filler, records→range}
use Rattle.board.proofs.PoolLaws.{duties_pool}
use Rattle.board.proofs.RefusalLaws.{refusal_numbered, plainly_refused}
use Rattle.board.proofs.SayingLaws.{view_fits, view_saying, saying_sized, saying_good}
use Rattle.board.proofs.ToldLaws.{untouched}
use Rattle.permitted.proofs.Laws.{permitted_now_lem}
use Rattle.after.specs.Boards.{acted_board, did_board}
use Rattle.after.proofs.AfterLaws.{acted_is, withdrawn_is}
use Rattle.after.proofs.FitsLaws.{withdrawn_fits}
use Rattle.outcomes.specs.Outcomes.{ready_checks}
use Rattle.pool.proofs.FoundLaws.{FoundOpen}
use Rattle.requests.specs.declared.RequestDo.{RequestDo}
use Rattle.do_duty.specs.Does.{HeldBack, after_do, do_checks, Does}
use Rattle.do_duty.specs.Inside.{time_checks, duty_checks}

-- the checks of the duty that is named: 13, 14, 15
abbrev named_checks : Board → RequestDo → List Check
named_checks b q = drop 3 (do_checks b q)

-- ---- a refusal

module _ (b : Board) (q : RequestDo) where
  pub refused_does :
      (e : Refusal) → Answers (do_checks b q) (number_of e) → Does b q (refused_answer e) b
  refused_does e a =
      let not_red = never_answered answer.red (do_checks b q) (number_of e) (λ d. omega arith) refl a in
      record {
        number = a;
        accepted = λ d. absurd (refusal_numbered e d);
        refused = λ f. (refl, refl);
        told =
            subst (Told (after_do b q) [] []) (sym (plainly_refused e not_red))
            (untouched (after_do b q) [] (number_of e) not_red);
      }

  -- 19 and 10
  pub first_answers :
      (e : Refusal) → Answers (ready_checks b max_duties q.clock) (number_of e)
      → Answers (do_checks b q) (number_of e)
  first_answers e (inl broken) = inl broken
  first_answers e (inr (whole, inl (short, is))) = absurd (omega arith)
  first_answers e (inr (whole, inr (long, inl late))) = inr (whole, inl late)
  first_answers e (inr (whole, inr (long, inr (due, done)))) = absurd (refusal_numbered e done)

  -- past 19 and 10
  module _ (past : Answers (ready_checks b max_duties q.clock) answer.done) where
    none : NoneApplies (ready_checks b max_duties q.clock)
    none = done_none (ready_checks b max_duties q.clock) refl past

    pub good_board : good b ≡ true
    good_board = is_true (good b) none.0

    pub past_board : (n : ℕ) → Answers (drop 2 (do_checks b q)) n → Answers (do_checks b q) n
    past_board n a = inr (none.0, inr (none.1.1.0, a))

-- ---- the windows

module _ (duties : List Duty) (d : Duty) (clock : ℕ) where
  pub answers_13 : in_window clock d ≡ false → Answers (time_checks duties d clock) answer.outside
  answers_13 off = inl (off, refl)

  module _ (inside : in_window clock d ≡ true) where
    pub answers_14 :
        any (λ y. wholly_before y d) duties ≡ true → Answers (time_checks duties d clock) answer.held_back
    answers_14 on = inr (λ f. clash inside f, inl (on, refl))

    pub in_time :
        any (λ y. wholly_before y d) duties ≡ false → Answers (time_checks duties d clock) answer.done
    in_time off = inr (λ f. clash inside f, inr (λ t. clash t off, refl))

-- ---- the duty was found

module _ (b : Board) (is_good : good b ≡ true) (q : RequestDo) (d : Duty)
    (found : FoundOpen (view b) q.serial.0 d) where
  abbrev v : View
  v = view b

  -- it is the only one with its serial
  one : (y : Duty) → Mem y v.duties → y.serial.0 ≡ q.serial.0 → y ≡ d
  one y m e =
      same_serial (world_of v) v.duties (duties_pool v (good→records b is_good)).distinct m
      found.open_duty (e ∙ sym found.has_serial)

  only : {Holds : Duty → Type 0} → OpenWith v q.serial.0 Holds → Holds d
  only {Holds} o = subst Holds (one o.duty o.open_duty o.has_serial) o.holds

  this : {Holds : Duty → Type 0} → Holds d → OpenWith v q.serial.0 Holds
  this h = record { duty = d; open_duty = found.open_duty; has_serial = found.has_serial; holds = h }

  held_back_lem : any (λ y. wholly_before y d) v.duties ≡ true → HeldBack v d
  held_back_lem e =
      let r = any_true (λ y. wholly_before y d) v.duties e in
      record { other = r.0; open_other = r.1; before = r.2 }

  held_any : HeldBack v d → any (λ y. wholly_before y d) v.duties ≡ true
  held_any h = any_mem (λ y. wholly_before y d) h.open_other h.before

  duty_answers : (n : ℕ) → Answers (duty_checks b d q.clock) n → Answers (named_checks b q) n
  duty_answers n (inl (p, e)) = inl (this p, e)
  duty_answers n (inr (p, inl (h, e))) = inr (λ o. p (only o), inl (this (held_back_lem h), e))
  duty_answers n (inr (p, inr (h, inl (m, e)))) =
      inr (λ o. p (only o), inr (λ o. h (held_any (only o)), inl (this m, e)))
  duty_answers n (inr (p, inr (h, inr (m, e)))) =
      inr (λ o. p (only o), inr (λ o. h (held_any (only o)), inr (λ o. m (only o), e)))

  -- past 12
  pub past_open : (n : ℕ) → Answers (duty_checks b d q.clock) n → Answers (drop 2 (do_checks b q)) n
  past_open n a = inr (λ not_open_lem. not_open_lem d found.open_duty found.has_serial, duty_answers n a)

  -- 13 and 14
  module _ (reason : ℕ) (answers : Answers (time_checks v.duties d q.clock) reason) where
    abbrev last : List Check
    last = drop 2 (duty_checks b d q.clock)

    pub time_answers : (reason ≡ answer.done → ⊥) → Answers (duty_checks b d q.clock) reason
    time_answers refuses = refused_first (time_checks v.duties d q.clock) last reason refuses answers

    -- past 13 and 14: 15, by the test whether it is permitted
    module _ (passes : reason ≡ answer.done) (may : Bool)
        (tested : may
        ≡ met (held_in b.holdings) (needs d.doer (asked_for v.permissions v.rules d.what))) where
      past_time : (n : ℕ) → Answers last n → Answers (duty_checks b d q.clock) n
      past_time n a =
          let checks = time_checks v.duties d q.clock in
          then_second checks last n (done_none checks refl (subst (Answers checks) passes answers)) a

      permitted_is : may ≡ permitted_now v d.doer d.what
      permitted_is =
          tested ∙ permitted_now_lem b (and_true _ _ (good→filler b is_good)).0 d.doer d.what

      pub may_not : may ≡ false → Answers (duty_checks b d q.clock) answer.not_permitted
      may_not e = past_time answer.not_permitted (inl (sym permitted_is ∙ e, refl))

      pub may_do : may ≡ true → Answers (duty_checks b d q.clock) answer.done
      may_do e = past_time answer.done (inr (λ f. clash (sym permitted_is ∙ e) f, refl))

  -- ---- accepted

  module _ (size : Sized b) where
    abbrev left : View
    left = withdrawn v q.clock q.serial.0

    did_is : acted left q.clock d.what ≡ after_do b q
    did_is = rw found.finds

    what_fits_lem : what_fits (board_saying left).counts.users (board_saying left).counts.roles d.what ≡ true
    unfolding board_saying
    what_fits_lem = ((records→range v (good→records b is_good)).duties.each d found.open_duty).what

    done_board : did_board b q.clock q.serial.0 d.what ≡ board_saying (after_do b q)
    done_board =
        let fits = withdrawn_fits v (view_fits b size is_good) q.clock q.serial.0 in
        let w = board_saying left in
        ap (λ (c : Board). acted_board c q.clock d.what)
        (withdrawn_is b size is_good q.clock q.serial.0)
        ∙ acted_is w (saying_sized left fits) (saying_good left fits) q.clock d.what what_fits_lem
        ∙ ap (λ (u : View). board_saying (acted u q.clock d.what)) (view_saying left fits)
        ∙ ap board_saying did_is

    pub done_does :
        (next : Board) → next ≡ did_board b q.clock q.serial.0 d.what → Answers (do_checks b q) answer.done
        → Does b q (done_answer 0) next
    done_does next made answers =
        rw (made ∙ done_board)
        (record {
          number = answers;
          accepted = λ k. (refl, refl);
          refused = λ k. absurd (k refl);
          told = untouched (after_do b q) [] answer.done (λ k. omega arith);
        })
