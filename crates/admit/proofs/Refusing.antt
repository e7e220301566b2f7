-- The answers of admit's earlier checks, over what the tests before them said.
use Rattle.std.proofs.Common.{◌≡◌, refl, sym, ap, ◌∙◌, inl, inr, true, false, ℕ, List, [], ◌∷◌, length}
use Rattle.orders.proofs.Tests.{clash}
use Rattle.board.specs.declared.Board.{Board}
use Rattle.board.specs.declared.Duty.{Duty}
use Rattle.board.specs.declared.Refusal.{Refusal}
use Rattle.board.specs.After.{with_serial}
use Rattle.board.specs.Answers.{Check, check, Answers}
use Rattle.board.specs.Limits.{max_duties, max_next}
use Rattle.board.specs.Numbers as answer
use Rattle.board.specs.Refusals.{number_of}
use Rattle.board.specs.View.{view}
use Rattle.board.specs.Windows.{window_fits, is_over}
use Rattle.outcomes.specs.Outcomes.{ready_checks}
use Rattle.outcomes.proofs.First as first
use Rattle.requests.specs.declared.RequestAdmit.{RequestAdmit}
use Rattle.requests.specs.Requests.{doing_fits, asked}
use Rattle.admit.specs.Admits.{admit_earlier}

module _ (b : Board) (room : ℕ) (q : RequestAdmit) where
  abbrev new : Duty
  new = with_serial b.next.0 (asked q)

  -- 16 and 17
  abbrev room_checks : List Check
  room_checks =
      check answer.full (length (view b).duties ≡ max_duties)
      ∷ check answer.spent (b.next.0 ≡ max_next)
      ∷ []

  -- 7, 21, 16 and 17
  abbrev duty_checks : List Check
  duty_checks =
      check answer.window (window_fits new ≡ false) ∷ check answer.over (is_over q.clock new ≡ true)
      ∷ room_checks

  abbrev last : List Check
  last =
      check answer.request (doing_fits b.counts.users b.counts.roles q.doer q.action q.first q.second ≡ false)
      ∷ duty_checks

  pub not_ready :
      (e : Refusal) → Answers (ready_checks b room q.clock) (number_of e)
      → Answers (admit_earlier b room q) (number_of e)
  not_ready e a = first.not_ready b room q.clock last e a

  module _ (past : Answers (ready_checks b room q.clock) answer.done) where
    pub answers_11 :
        doing_fits b.counts.users b.counts.roles q.doer q.action q.first q.second ≡ false
        → Answers (admit_earlier b room q) answer.request
    answers_11 off = first.is_ready b room q.clock last past answer.request (inl (off, refl))

    module _
        (fits : doing_fits b.counts.users b.counts.roles q.doer q.action q.first q.second ≡ true)
        (d : Duty)
        (is : d ≡ new)
      where
        past_request : (n : ℕ) → Answers duty_checks n → Answers (admit_earlier b room q) n
        past_request n a = first.is_ready b room q.clock last past n (inr (λ e. clash fits e, a))

        pub answers_7 : window_fits d ≡ false → Answers (admit_earlier b room q) answer.window
        answers_7 off = past_request answer.window (inl (ap window_fits (sym is) ∙ off, refl))

        module _ (window : window_fits d ≡ true) where
          pub answers_21 : is_over q.clock d ≡ true → Answers (admit_earlier b room q) answer.over
          answers_21 on =
              past_request answer.over
              (inr (
                λ e. clash (ap window_fits (sym is) ∙ window) e,
                inl (ap (is_over q.clock) (sym is) ∙ on, refl),
              ))

          module _ (before : is_over q.clock d ≡ false) where
            past_window : (n : ℕ) → Answers room_checks n → Answers (admit_earlier b room q) n
            past_window n a =
                past_request n
                (inr (
                  λ e. clash (ap window_fits (sym is) ∙ window) e,
                  inr (λ e. clash e (ap (is_over q.clock) (sym is) ∙ before), a),
                ))

            pub answers_16 :
                length (view b).duties ≡ max_duties → Answers (admit_earlier b room q) answer.full
            answers_16 full = past_window answer.full (inl (full, refl))

            module _ (free : length (view b).duties ≡ max_duties → ⊥) where
              pub answers_17 : b.next.0 ≡ max_next → Answers (admit_earlier b room q) answer.spent
              answers_17 spent = past_window answer.spent (inr (free, inl (spent, refl)))

              pub answers_0 : (b.next.0 ≡ max_next → ⊥) → Answers (admit_earlier b room q) answer.done
              answers_0 more = past_window answer.done (inr (free, inr (more, refl)))
