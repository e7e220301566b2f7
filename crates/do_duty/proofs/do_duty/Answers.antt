-- `do_duty::do_duty` meets its contract: 19 or 10; 12, where the search finds none; 13, 14 or 15 of the
-- duty found; or it is taken out and its change made.
use mathlib.Core.Path.{◌≡◌, refl, sym, ◌∙◌}
use mathlib.Core.Logic.{inl}
use mathlib.Core.Bool.{true}
use Prim.Native.Nat.{ℕ}
use Rattle.std.proofs.lemmas.Result.{err_from_is_err_and}
use Rattle.board.specs.declared.Refusal.TheVariants.{NotOpen, NotPermitted}
use Rattle.board.specs.Answers.{Answers}
use Rattle.board.specs.Good.{good}
use Rattle.board.specs.Numbers as answer
use Rattle.board.specs.Refusals.{number_of}
use Rattle.board.specs.View.{view}
use Rattle.board.proofs.RefusalLaws.{refusal_numbered}
use Rattle.board.proofs.Sized.{sized}
use Rattle.pool.proofs.FoundLaws.{FoundOpen, found_missing, found_open}
use Rattle.do_duty.specs.Does.{do_checks}
use Rattle.do_duty.specs.Inside.{time_checks, duty_checks}
use Rattle.do_duty.proofs.Doing.{refused_does, first_answers, good_board, past_board, past_open}
use Rattle.do_duty.proofs.Doing.{time_answers, may_not, may_do, done_does}
use Rattle.do_duty.proofs.do_duty.Goals as goal
use Rattle.do_duty.proofs.do_duty.Goals.{In-Some}

-- the duty was found
good_found : (c : In-Some) → good c.args.b ≡ true
good_found c = good_board c.args.b c.args.q c.in_ok-ready.ensures

is_found : (c : In-Some) → FoundOpen (view c.args.b) c.args.q.serial.0 c.in-Some.d
is_found c =
    found_open (view c.args.b) c.args.q.serial.0 c.in-Some.d
    (rw c.duties-duties.ensures at (sym c.with_serial.ensures ∙ c.in-Some.is))

-- what is answered for the duty is answered
answers_here :
    (c : In-Some) (n : ℕ)
    → Answers (duty_checks c.args.b c.in-Some.d c.args.q.clock) n
    → Answers (do_checks c.args.b c.args.q) n
answers_here c n a =
    past_board c.args.b c.args.q c.in_ok-ready.ensures n
    (past_open c.args.b (good_found c) c.args.q c.in-Some.d (is_found c) n a)

pub returns-in_err-ready : goal.returns-in_err-ready
returns-in_err-ready c =
    let p = err_from_is_err_and c.from_residual.result c.from_residual.ensures.1 in
    rw (p.1, p.2)
    (refused_does c.args.b c.args.q _ (first_answers c.args.b c.args.q _ c.in_err-ready.ensures))

pub returns-in_default : goal.returns-in_default
returns-in_default c =
    let missing = rw c.duties-duties.ensures at (sym c.with_serial.ensures ∙ c.in_default.is) in
    refused_does c.args.b c.args.q NotOpen
    (past_board c.args.b c.args.q c.in_ok-ready.ensures _
    (inl (found_missing (view c.args.b) c.args.q.serial.0 missing, refl)))

pub returns-in_err-in_time : goal.returns-in_err-in_time
returns-in_err-in_time c =
    let here = (goal.at.returns-in_err-in_time c).In-Some in
    let from = c.from_residual-in_err-in_time in
    let p = err_from_is_err_and from.result from.ensures.1 in
    let told : Answers (time_checks c.duties-duties.result.now c.in-Some.d c.args.q.clock)
    (number_of c.in_err-in_time.field-0.0) = c.in_err-in_time.ensures in
    rw (p.1, p.2)
    (refused_does c.args.b c.args.q _
    (answers_here here _
    (time_answers c.args.b (good_found here) c.args.q c.in-Some.d (is_found here) _
    (rw c.duties-duties.ensures at told) (refusal_numbered _))))

pub returns-then-not-permitted : goal.returns-then-not-permitted
returns-then-not-permitted c =
    let here = (goal.at.returns-then-not-permitted c).In-Some in
    refused_does c.args.b c.args.q NotPermitted
    (answers_here here _
    (may_not c.args.b (good_found here) c.args.q c.in-Some.d (is_found here) answer.done
    (rw c.duties-duties.ensures at c.in_ok-in_time.ensures) refl c.permitted.result c.permitted.ensures
    c.if-not-permitted.true))

pub returns : goal.returns
returns c =
    let here = (goal.at.returns c).In-Some in
    done_does c.args.b (good_found here) c.args.q c.in-Some.d (is_found here)
    (sized c.args.b _ c.well_formed.0) c.did-board.result c.did-board.ensures
    (answers_here here _
    (may_do c.args.b (good_found here) c.args.q c.in-Some.d (is_found here) answer.done
    (rw c.duties-duties.ensures at c.in_ok-in_time.ensures) refl c.permitted.result c.permitted.ensures
    c.if-not-permitted.false))
