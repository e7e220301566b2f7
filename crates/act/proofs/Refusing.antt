-- The answers of act's earlier checks, over what the tests before them said: what `permitted` says of the
-- board is what the definition says, so 15 where it says no, and 0 where it says yes.
use Rattle.std.proofs.Common.{◌≡◌, refl, sym, ap, ◌∙◌, inl, inr, Bool, true, false, ℕ, List, [], ◌∷◌}
use Rattle.orders.specs.Needs.{met}
use Rattle.orders.proofs.Tests.{clash, and_true}
use Rattle.board.specs.declared.Board.{Board}
use Rattle.board.specs.declared.Refusal.{Refusal}
use Rattle.board.specs.declared.What.{What}
use Rattle.board.specs.Answers.{Check, check, Answers}
use Rattle.board.specs.Green.{permitted_now}
use Rattle.board.specs.Numbers as answer
use Rattle.board.specs.Permitted.{held_in, asked_for, needs}
use Rattle.board.specs.Refusals.{number_of}
use Rattle.board.specs.View.{view}
use Rattle.board.proofs.GoodLaws.{good→filler}
use Rattle.outcomes.specs.Outcomes.{ready_checks}
use Rattle.outcomes.proofs.First as first
use Rattle.requests.specs.declared.RequestAct.{RequestAct}
use Rattle.requests.specs.Requests.{doing_fits}
use Rattle.permitted.proofs.Laws.{permitted_now_lem}
use Rattle.act.specs.ActsNow.{what_now, act_earlier}

module _ (b : Board) (room : ℕ) (q : RequestAct) where
  -- 11 and 15
  abbrev last : List Check
  last =
      check answer.request (doing_fits b.counts.users b.counts.roles q.doer q.action q.first q.second ≡ false)
      ∷ check answer.not_permitted (permitted_now (view b) q.doer (what_now q) ≡ false)
      ∷ []

  pub not_ready :
      (e : Refusal) → Answers (ready_checks b room q.clock) (number_of e)
      → Answers (act_earlier b room q) (number_of e)
  not_ready e a = first.not_ready b room q.clock last e a

  module _ (past : Answers (ready_checks b room q.clock) answer.done) where
    pub answers_11 :
        doing_fits b.counts.users b.counts.roles q.doer q.action q.first q.second ≡ false
        → Answers (act_earlier b room q) answer.request
    answers_11 off = first.is_ready b room q.clock last past answer.request (inl (off, refl))

    module _
        (fits : doing_fits b.counts.users b.counts.roles q.doer q.action q.first q.second ≡ true)
        (w : What) (r : Bool)
        (said : r ≡ met (held_in b.holdings) (needs q.doer (asked_for (view b).permissions (view b).rules w)))
        (is : w ≡ what_now q)
      where
        says : r ≡ permitted_now (view b) q.doer (what_now q)
        says =
            let filler = (and_true _ _ (good→filler b (first.whole b room q.clock last past))).0 in
            said ∙ permitted_now_lem b filler q.doer w ∙ ap (permitted_now (view b) q.doer) is

        pub answers_15 : r ≡ false → Answers (act_earlier b room q) answer.not_permitted
        answers_15 off =
            first.is_ready b room q.clock last past answer.not_permitted
            (inr (λ e. clash fits e, inl (sym says ∙ off, refl)))

        pub answers_0 : r ≡ true → Answers (act_earlier b room q) answer.done
        answers_0 on =
            first.is_ready b room q.clock last past answer.done
            (inr (λ e. clash fits e, inr (λ e. clash (sym says ∙ on) e, refl)))
