-- Past its earlier checks a call is exactly if document 01's words hold (specs/May.antt); so its answer is 0
-- or 8 exactly then, and do's is 0. The idea: each check that does not apply gives one of the words, and each
-- of the words keeps one check from applying.
use mathlib.Core.Path.{◌≡◌, refl, sym, subst, ◌∙◌}
use mathlib.Core.Logic.{◌↔◌, ◌⊎◌, inl, inr, ⊎_elim}
use mathlib.Core.Bool.{true, false, not}
use mathlib.Core.List.{List, [], ◌∷◌, ◌++◌}
use Prim.Native.Nat.{ℕ}
use native.Mathlib.Omega.{arith}
use lib.Dec.{eqb, leb}
use lib.ListN.{length}
use borrow.Author.Tests.{eqb-false, ltb-true, ltb-false, lt-ltb, le-ltb, leb-true, le-leb}
use Rattle.orders.specs.Lists.{Mem}
use Rattle.orders.proofs.Tests.{clash, is_true, is_false, not_true, and_left, and_right, and_both}
use Rattle.board.specs.declared.Answer.{Answer}
use Rattle.board.specs.declared.Board.{Board}
use Rattle.board.specs.declared.Duty.{Duty}
use Rattle.board.specs.declared.What.{What}
use Rattle.board.specs.After.{with_serial}
use Rattle.board.specs.Answers.{Check, check, Answers, NoneApplies}
use Rattle.board.specs.Filler.{Sized}
use Rattle.board.specs.Good.{good}
use Rattle.board.specs.Green.{Red, permitted_now}
use Rattle.board.specs.Numbers as answer
use Rattle.board.specs.Open.{OpenWith}
use Rattle.board.specs.Permitted.{held_in}
use Rattle.board.specs.Sentences.{Sentence}
use Rattle.board.specs.View.{view}
use Rattle.board.specs.Windows.{window_fits, in_window, is_over}
use Rattle.board.proofs.AnswersLaws.{lacks, Lacks, past_first, done_none, none_done}
use Rattle.board.proofs.GoodLaws.{good→records}
use Rattle.board.proofs.SayingLaws.{view_fits}
use Rattle.board.proofs.Sentences.{permitted_now_is}
use Rattle.requests.specs.declared.RequestAct.{RequestAct}
use Rattle.requests.specs.declared.RequestAdmit.{RequestAdmit}
use Rattle.requests.specs.declared.RequestDo.{RequestDo}
use Rattle.requests.specs.declared.RequestWithdraw.{RequestWithdraw}
use Rattle.requests.specs.Requests.{asked}
use Rattle.admit.specs.Admits.{after_admit, admit_earlier, Admits}
use Rattle.act.specs.ActsNow.{what_now, after_act, act_earlier, ActsNow}
use Rattle.do_duty.specs.Does.{do_checks, Does}
use Rattle.withdraw.specs.Withdraws.{after_withdraw, withdraw_earlier, Withdraws}
use Rattle.promises.specs.May.{DoneOrRed, MayAdmit, MayAct, MayDo, MayWithdraw}
use Rattle.promises.proofs.AfterCalls.{named_open}
use Rattle.promises.proofs.AsksLaws.{asks_what, asks_one, asked_fits}
use Rattle.promises.proofs.DidLaws.{of_named}

-- ---- permitted now is what the sentence says

module _ (b : Board) (is_good : good b ≡ true) (doer : ℕ) (what : What) where
  says_permitted :
      (permitted_now (view b) doer what ≡ false → ⊥) → Sentence (view b) (held_in (view b).holdings) doer what
  says_permitted f =
      (permitted_now_is (view b) (good→records b is_good) doer what).0
      (is_true (permitted_now (view b) doer what) f)

  is_permitted :
      Sentence (view b) (held_in (view b).holdings) doer what → permitted_now (view b) doer what ≡ true
  is_permitted = (permitted_now_is (view b) (good→records b is_good) doer what).1

-- ---- admit

module _ (b : Board) (size : Sized b) (room : ℕ) (q : RequestAdmit) where
  pub admit_passed : NoneApplies (admit_earlier b room q) → MayAdmit b room q (asked q).what
  admit_passed (whole, (long, (later, (fits, (window, (over, (full, (spent, none)))))))) =
      let is_good = is_true (good b) whole in
      let limits = view_fits b size is_good in
      let asks = asks_what (view b) q.action q.first q.second q.doer fits in
      record {
        is_good = is_good;
        list = omega arith;
        clock = omega arith;
        doer = asks.0;
        asks = asks.1;
        window =
            let fits = is_true (window_fits (with_serial b.next.0 (asked q))) window in
            omega (arith, leb-true q.start q.end fits);
        not_over =
            let still = is_false (is_over q.clock (with_serial b.next.0 (asked q))) over in
            omega (arith, ltb-false q.end q.clock still);
        place = omega (arith, limits.duties);
        serial = omega (arith, limits.most);
      }

  pub admit_passes : (what : What) → MayAdmit b room q what → NoneApplies (admit_earlier b room q)
  admit_passes what may = (
    λ e. clash may.is_good e,
    (
      λ h. omega (arith, may.list),
      (
        λ h. omega (arith, may.clock),
        (
          λ e.
              clash (asked_fits (view b) q.action q.first q.second q.doer what may.doer
              may.asks) e,
          (
            λ e. clash (le-leb q.start q.end (omega (arith, may.window))) e,
            (
              λ e. clash e (le-ltb q.end q.clock (omega (arith, may.not_over))),
              (λ e. omega (arith, may.place), (λ e. omega (arith, may.serial), tt)),
            ),
          ),
        ),
      ),
    ),
  )

-- ---- act

module _ (b : Board) (room : ℕ) (q : RequestAct) where
  pub act_passed : NoneApplies (act_earlier b room q) → MayAct b room q (what_now q)
  act_passed (whole, (long, (later, (fits, (permitted, none))))) =
      let is_good = is_true (good b) whole in
      let asks = asks_what (view b) q.action q.first q.second q.doer fits in
      record {
        is_good = is_good;
        list = omega arith;
        clock = omega arith;
        doer = asks.0;
        asks = asks.1;
        permitted = says_permitted b is_good q.doer (what_now q) permitted;
      }

  pub act_passes : (what : What) → MayAct b room q what → NoneApplies (act_earlier b room q)
  act_passes what may =
      let one = asks_one (view b) q.action q.first q.second what may.asks in
      let fits = asked_fits (view b) q.action q.first q.second q.doer what may.doer
      may.asks in
      let permitted =
      subst (λ (w : What). permitted_now (view b) q.doer w ≡ true) one
      (is_permitted b may.is_good q.doer what may.permitted) in (
        λ e. clash may.is_good e,
        (
          λ h. omega (arith, may.list),
          (
            λ h. omega (arith, may.clock),
            (λ e. clash fits e, (λ e. clash permitted e, tt)),
          ),
        ),
      )

-- ---- do

module _ (b : Board) (size : Sized b) (q : RequestDo) where
  -- of the open duty with the serial
  named_passed :
      NoneApplies (do_checks b q) → (d : Duty) → Mem d (view b).duties → d.serial.0 ≡ q.serial.0
      → MayDo b q d
  named_passed (whole, (later, (missing, (outside, (held_back_lem, (not_permitted_lem, none)))))) d m e =
      record {
        is_good = is_good;
        clock = omega arith;
        open_duty = m;
        has_serial = e;
        from_start = omega (arith, leb-true d.start q.clock (and_left _ _ in_window_lem));
        to_end =
            omega (arith, leb-true q.clock d.end (and_right (leb d.start q.clock) _ in_window_lem));
        none_before = λ other n h.
            let before = lt-ltb other.end d.start (omega (arith, h)) in
            held_back_lem (named_d _ (record { other = other; open_other = n; before = before }));
        permitted = says_permitted b is_good d.doer d.what (λ f. not_permitted_lem (named_d _ f));
      }
    where
      is_good : good b ≡ true
      is_good = is_true (good b) whole

      -- what holds of d holds of an open duty with the serial
      named_d : (Holds : Duty → Type 0) → Holds d → OpenWith (view b) q.serial.0 Holds
      named_d Holds h = record { duty = d; open_duty = m; has_serial = e; holds = h }

      in_window_lem : in_window q.clock d ≡ true
      in_window_lem = is_true (in_window q.clock d) (λ f. outside (named_d _ f))

  pub do_passed : NoneApplies (do_checks b q) → (duty : Duty) × MayDo b q duty
  do_passed none =
      let (d, m, e) = named_open (view b) q.serial.0 none.1.1.0 in (d, named_passed none d m e)

  pub do_passes : (duty : Duty) → MayDo b q duty → NoneApplies (do_checks b q)
  do_passes d may = (
    λ e. clash may.is_good e,
    (
      λ h. omega (arith, may.clock),
      (
        λ f. f d may.open_duty may.has_serial,
        (
          λ o. clash in_window_lem (of_duty _ o),
          (
            λ o.
                let h = of_duty _ o in
                may.none_before h.other h.open_other
                (omega (arith, ltb-true h.other.end d.start h.before)),
            (λ o. clash permitted (of_duty _ o), tt),
          ),
        ),
      ),
    ),
  )
    where
      of_duty : (Holds : Duty → Type 0) → OpenWith (view b) q.serial.0 Holds → Holds d
      of_duty =
          of_named (view b) (view_fits b size may.is_good) d may.open_duty q.serial.0
          may.has_serial

      permitted : permitted_now (view b) d.doer d.what ≡ true
      permitted = is_permitted b may.is_good d.doer d.what may.permitted

      in_window_lem : in_window q.clock d ≡ true
      in_window_lem =
          and_both (leb d.start q.clock) (leb q.clock d.end)
          (le-leb d.start q.clock (omega (arith, may.from_start)))
          (le-leb q.clock d.end (omega (arith, may.to_end)))

-- ---- withdraw

module _ (b : Board) (room : ℕ) (q : RequestWithdraw) where
  pub withdraw_passed :
      NoneApplies (withdraw_earlier b room q) → (duty : Duty) × MayWithdraw b room q duty
  withdraw_passed (whole, (long, (later, (missing, none)))) =
      let found = named_open (view b) q.serial.0 missing in (
        found.0,
        record {
          is_good = is_true (good b) whole;
          list = omega arith;
          clock = omega arith;
          open_duty = found.1;
          has_serial = found.2;
        },
      )

  pub withdraw_passes : (duty : Duty) → MayWithdraw b room q duty → NoneApplies (withdraw_earlier b room q)
  withdraw_passes d may = (
    λ e. clash may.is_good e,
    (
      λ h. omega (arith, may.list),
      (λ h. omega (arith, may.clock), (λ f. f d may.open_duty may.has_serial, tt)),
    ),
  )

-- ---- so the answer is 0 or 8 exactly then

-- a number that is done's or red's is no earlier check's
pub past_earlier :
    (cs : List Check) (red : Type 0) (n : ℕ) → Lacks answer.done cs → Lacks answer.red cs
    → Answers (cs ++ (check answer.red red ∷ [])) n → (n ≡ answer.done) ⊎ (n ≡ answer.red) → NoneApplies cs
past_earlier [] red n k l a e = tt
past_earlier (c ∷ cs) red n k l (inl a) e =
    let not_done = not_true (eqb c.number answer.done) (and_left _ (lacks answer.done cs) k) in
    let not_red = not_true (eqb c.number answer.red) (and_left _ (lacks answer.red cs) l) in
    ⊎_elim
    (λ d. absurd (eqb-false c.number answer.done not_done (sym a.1 ∙ d)))
    (λ d. absurd (eqb-false c.number answer.red not_red (sym a.1 ∙ d)))
    e
past_earlier (c ∷ cs) red n k l (inr a) e = (
  a.0,
  past_earlier cs red n
      (and_right (not (eqb c.number answer.done)) (lacks answer.done cs) k)
      (and_right (not (eqb c.number answer.red)) (lacks answer.red cs) l)
      a.1 e,
)

by_verdict :
    (cs : List Check) (red : Type 0) (n : ℕ) → Answers (cs ++ (check answer.red red ∷ [])) n → NoneApplies cs
    → (n ≡ answer.done) ⊎ (n ≡ answer.red)
by_verdict cs red n a none = go (past_first cs (check answer.red red ∷ []) n none a)
  where
    go : Answers (check answer.red red ∷ []) n → (n ≡ answer.done) ⊎ (n ≡ answer.red)
    go (inl a) = inr a.1
    go (inr a) = inl a.1

module _ (b : Board) (size : Sized b) (before after : List ℕ) (r : Answer) (left : Board) where
  pub admit_may :
      (q : RequestAdmit) → Admits b before q r left after
      → DoneOrRed r ↔ ((what : What) × MayAdmit b (length before) q what)
  admit_may q k =
      let earlier = admit_earlier b (length before) q in (
        λ e. (
          (asked q).what,
          admit_passed b size (length before) q
              (past_earlier earlier (Red (after_admit b q)) r.number refl refl k.number e),
        ),
        λ may.
            by_verdict earlier (Red (after_admit b q)) r.number k.number
            (admit_passes b size (length before) q may.0 may.1),
      )

  pub act_may :
      (q : RequestAct) → ActsNow b before q r left after
      → DoneOrRed r ↔ ((what : What) × MayAct b (length before) q what)
  act_may q k =
      let earlier = act_earlier b (length before) q in (
        λ e. (
          what_now q,
          act_passed b (length before) q
              (past_earlier earlier (Red (after_act b q)) r.number refl refl k.number e),
        ),
        λ may.
            by_verdict earlier (Red (after_act b q)) r.number k.number
            (act_passes b (length before) q may.0 may.1),
      )

  pub withdraw_may :
      (q : RequestWithdraw) → Withdraws b before q r left after
      → DoneOrRed r ↔ ((duty : Duty) × MayWithdraw b (length before) q duty)
  withdraw_may q k =
      let earlier = withdraw_earlier b (length before) q in (
        λ e.
            withdraw_passed b (length before) q
            (past_earlier earlier (Red (after_withdraw b q)) r.number refl refl k.number e),
        λ may.
            by_verdict earlier (Red (after_withdraw b q)) r.number k.number
            (withdraw_passes b (length before) q may.0 may.1),
      )

-- do has no 8
pub do_may :
    (b : Board) → Sized b → (q : RequestDo) (r : Answer) (left : Board) → Does b q r left
    → (r.number ≡ answer.done) ↔ ((duty : Duty) × MayDo b q duty)
do_may b size q r left k = (
  λ e. do_passed b size q (done_none (do_checks b q) refl (subst (Answers (do_checks b q)) e k.number)),
  λ may. none_done (do_checks b q) r.number (do_passes b size q may.0 may.1) k.number,
)
