-- `admit::allowed` meets its contract: 19, 9, 10, 11 and 16 prove by themselves.
use mathlib.Core.Path.{◌≡◌, sym, ap, ◌∙◌}
use mathlib.Core.Bool.{true, false}
use lib.ListN.{length}
use Rattle.board.specs.Windows.{window_fits, is_over}
use Rattle.requests.specs.Requests.{doing_fits}
use Rattle.admit.proofs.Refusing.{answers_7, answers_21, answers_17, answers_0}
use Rattle.admit.proofs.allowed.Goals as goal
use Rattle.admit.proofs.allowed.Goals.{Else-not-doing_fits, Else-not-window_fits, Else-over}

fits : (c : Else-not-doing_fits)
    → doing_fits c.args.b.now.counts.users c.args.b.now.counts.roles c.args.q.doer c.args.q.action
    c.args.q.first c.args.q.second
    ≡ true
fits c = sym c.doing_fits.ensures ∙ c.if-not-doing_fits.false

window : (c : Else-not-window_fits) → window_fits c.duty_asked-d.result ≡ true
window c = sym c.window_fits.ensures ∙ c.if-not-window_fits.false

before : (c : Else-over) → is_over c.args.q.clock c.duty_asked-d.result ≡ false
before c = sym c.is_over-over.ensures ∙ c.if-over.false

pub returns-then-not-window_fits : goal.returns-then-not-window_fits
returns-then-not-window_fits c =
    answers_7 c.args.b.now c.args.room c.args.q c.in_ok-ready.ensures
    (fits (goal.at.returns-then-not-window_fits c).Else-not-doing_fits) _ c.duty_asked-d.ensures
    (sym c.window_fits.ensures ∙ c.if-not-window_fits.true)

pub returns-then-over : goal.returns-then-over
returns-then-over c =
    answers_21 c.args.b.now c.args.room c.args.q c.in_ok-ready.ensures
    (fits (goal.at.returns-then-over c).Else-not-doing_fits) _ c.duty_asked-d.ensures
    (window (goal.at.returns-then-over c).Else-not-window_fits)
    (sym c.is_over-over.ensures ∙ c.if-over.true)

pub returns-then-b : goal.returns-then-b
returns-then-b c =
    let at = goal.at.returns-then-b c in
    answers_17 c.args.b.now c.args.room c.args.q c.in_ok-ready.ensures (fits at.Else-not-doing_fits) _
    c.duty_asked-d.ensures (window at.Else-not-window_fits) (before at.Else-over)
    (λ e. c.if-full.false (ap length c.duties.ensures ∙ e)) c.if-b.true

pub returns : goal.returns
returns c =
    let at = goal.at.returns c in
    answers_0 c.args.b.now c.args.room c.args.q c.in_ok-ready.ensures (fits at.Else-not-doing_fits) _
    c.duty_asked-d.ensures (window at.Else-not-window_fits) (before at.Else-over)
    (λ e. c.if-full.false (ap length c.duties.ensures ∙ e)) c.if-b.false
