-- The two outcomes of admit: an earlier check refuses; or none applies, and the board with the duty added
-- is judged. There the duty fits the board, so the board after keeps the rules and has room.
use mathlib.Core.Path.{◌≡◌, refl, ◌∙◌, subst}
use mathlib.Core.Bool.{true}
use mathlib.Core.List.{List, [], ◌∷◌, ◌++◌}
use Prim.Native.Nat.{ℕ, ◌+◌, ◌≤◌, ◌<◌}
use native.Mathlib.Omega.{arith}
use lib.ListN.{length, set, length-append}
use Rattle.std.specs.Prelude.{Result}
use borrow.Author.Tests.{ltb-true, leb-true}
use Rattle.orders.proofs.Lists.{at_cons}
use Rattle.orders.proofs.Tests.{is_true, and_left, and_right}
use Rattle.board.specs.declared.Board.{Board}
use Rattle.board.specs.declared.Duty.{Duty}
use Rattle.board.specs.After.{with_serial}
use Rattle.board.specs.declared.Refusal.{Refusal}
use Rattle.board.specs.Answers.{Check, Answers, NoneApplies}
use Rattle.board.specs.Filler.{no_duty, Sized}
use Rattle.board.specs.Good.{good}
use Rattle.board.specs.Limits.{max_duties, max_next}
use Rattle.board.specs.Numbers as answer
use Rattle.board.specs.Refusals.{number_of, refused_answer}
use Rattle.board.specs.Saying.{board_saying}
use Rattle.board.specs.View.{view}
use Rattle.board.specs.Windows.{window_fits}
use Rattle.board.proofs.AnswersLaws.{done_none}
use Rattle.board.proofs.SayingLaws.{ViewFits, view_fits, padded_next, saying_good}
use Rattle.after.proofs.AfterLaws.{same_permissions, same_rules, same_duties, same_holdings}
use Rattle.after.proofs.FitsLaws.{NewFits, admitted_fits}
use Rattle.outcomes.specs.declared.Accepted.{Accepted}
use Rattle.outcomes.specs.Outcomes.{answer_of, board_left, Judges}
use Rattle.outcomes.proofs.Judging.{refused_called, judged_called}
use Rattle.requests.specs.declared.RequestAdmit.{RequestAdmit}
use Rattle.requests.specs.Requests.{doing_fits, asked}
use Rattle.admit.specs.Admits.{after_admit, admit_earlier, Admits}

-- ---- the board with the duty added

module _ (b : Board) (size : Sized b) (is_good : good b ≡ true)
    (few : length (view b).duties < max_duties) where
  -- the code's board, field by field, is the one that says `admitted`
  pub added :
      (q : RequestAdmit) (d : Duty) → d ≡ with_serial b.next.0 (asked q)
      → record {
        counts =
            record {
              users = b.counts.users;
              roles = b.counts.roles;
              permissions = b.counts.permissions;
              rules = b.counts.rules;
              duties = b.counts.duties + 1;
            };
        clock = q.clock;
        next = record { 0 = b.next.0 + 1 };
        holdings = b.holdings;
        permissions = b.permissions;
        rules = b.rules;
        duties = set b.duties b.counts.duties d;
      }
      ≡ board_saying (after_admit b q)
  unfolding board_saying
  added q d is =
      λ i.
      record {
        counts =
            record {
              users = b.counts.users;
              roles = b.counts.roles;
              permissions = (same_permissions b size is_good).0 i;
              rules = (same_rules b size is_good).0 i;
              duties = count i;
            };
        clock = q.clock;
        next = record { 0 = b.next.0 + 1 };
        holdings = same_holdings b size is_good i;
        permissions = (same_permissions b size is_good).1 i;
        rules = (same_rules b size is_good).1 i;
        duties = duties i;
      }
    where
      new : Duty
      new = with_serial b.next.0 (asked q)

      count : b.counts.duties + 1 ≡ length ((view b).duties ++ (new ∷ []))
      count = omega (arith, (same_duties b size is_good).0, length-append (view b).duties (new ∷ []))

      duties : set b.duties b.counts.duties d ≡ (board_saying (after_admit b q)).duties
      duties =
          let same = same_duties b size is_good in
          (λ i. set (same.1 i) (same.0 i) (is i)) ∙ padded_next no_duty new max_duties (view b).duties few

-- ---- what admit promises

module _ (b : Board) (before : List ℕ) (q : RequestAdmit) where
  abbrev earlier : List Check
  earlier = admit_earlier b (length before) q

  pub refused_admits :
      (e : Refusal) → Answers earlier (number_of e) → Admits b before q (refused_answer e) b before
  refused_admits e a = refused_called earlier b (after_admit b q) b.next.0 before e refl a

  -- no earlier check applies
  module _ (size : Sized b) (answers : Answers earlier answer.done) where
    none : NoneApplies earlier
    none = done_none earlier refl answers

    pub whole : good b ≡ true
    whole = is_true (good b) none.0

    fits_now : ViewFits (view b)
    fits_now = view_fits b size whole

    pub few : length (view b).duties < max_duties
    few = let full = none.1.1.1.1.1.1.0 in omega (arith, fits_now.duties)

    pub spare : b.next.0 < max_next
    spare = let spent = none.1.1.1.1.1.1.1.0 in omega (arith, fits_now.most)

    new_fits : NewFits (view b) (asked q)
    new_fits =
        let fits = is_true (doing_fits b.counts.users b.counts.roles q.doer q.action q.first
        q.second) none.1.1.1.0 in
        let window = is_true (window_fits (with_serial b.next.0 (asked q))) none.1.1.1.1.0 in
        record {
          doer = ltb-true q.doer b.counts.users (search and_left);
          what = search (and_left, and_right);
          window = leb-true q.start q.end window;
        }

    pub fits_after : ViewFits (after_admit b q)
    fits_after =
        admitted_fits (view b) fits_now q.clock (asked q ∷ [])
        (λ d m. at_cons (λ e. rw e new_fits) (λ n. elim n [ ]) m)
        (omega (arith, few)) (omega (arith, spare))

    pub judged_admits :
        (next : Board) → next ≡ board_saying (after_admit b q) → (after : List ℕ)
        (r : Result Accepted Refusal)
        → ((c : Board) → good next ≡ true → Judges c next b.next.0 before after r)
        → Admits b before q (answer_of r) (board_left b r) after
    judged_admits next is after r j =
        let short = none.1.0 in
        let room : max_duties ≤ length before = omega arith in
        let judges =
        subst (λ (n : Board). (good n ≡ true → Judges b n b.next.0 before after r)) is (j b)
        (saying_good (after_admit b q) fits_after) in
        judged_called earlier b (after_admit b q) b.next.0 before after r none fits_after room judges
