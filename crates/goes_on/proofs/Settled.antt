-- Two outcomes of one record, lent the same list, are equal but for the choice of failing order with 8: the
-- record's kind says which call it asks for, and that call's promise settles its outcome.
use mathlib.Core.Path.{◌≡◌, refl, sym, ap, ◌∙◌}
use mathlib.Core.List.{List, []}
use Prim.Native.Nat.{ℕ}
use lib.ListN.{drop}
use Rattle.std.specs.Prelude.{Result}
use lib.Seq.{take-nil}
use Rattle.board.specs.declared.Answer.{Answer}
use Rattle.board.specs.declared.Board.{Board}
use Rattle.board.specs.Numbers as answer
use Rattle.board.specs.declared.Refusal.{Refusal}
use Rattle.outcomes.specs.declared.Accepted.{Accepted}
use Rattle.outcomes.specs.Outcomes.{answer_of, board_left}
use Rattle.outcomes.proofs.Settled.{same_outcome}
use Rattle.promises.specs.Calls.{Call, admit, act, do_duty, withdraw, check, walk, Keeps, lent}
use Rattle.promises.specs.Settled.{Settled}
use Rattle.promises.proofs.Settled.{call_settled}
use Rattle.session.specs.declared.kind.Kind.{Kind}
use Rattle.session.specs.declared.kind.Kind.TheVariants.{Admit, Act, Do, Withdraw, Check, Save, Walk, Poke}
use Rattle.session.specs.declared.Record.{Record}
use Rattle.session.specs.Kinds.{number_of}
use Rattle.session.specs.Sessions.{request_admit, request_act, request_do, request_withdraw}
use Rattle.session.specs.Sessions.{Untouched, Makes}
use Rattle.goes_on.proofs.ByKind.{Numbered, known, unknown, kind_or_none}

-- equal answers and boards, and the list as it was
untouched_settled :
    (before after after' : List ℕ) (r r' : Answer) (left left' : Board) → r ≡ r' → left ≡ left'
    → after ≡ before → after' ≡ before → Settled before after after' r r' left left'
untouched_settled before after after' r r' left left' same board one other =
    record {
      number = λ i. (same i).number;
      serial = λ i. (same i).serial.0;
      board = board;
      equal = λ _. (same, one ∙ sym other);
      chosen = λ _. (same, one ∙ sym other);
      beyond = λ _. (ap (drop r.length) one, ap (drop r'.length) other);
    }

module _
    (b : Board) (r : Record) (before after after' : List ℕ) (o o' : Result Accepted Refusal)
    (p : Makes b r before o after) (q : Makes b r before o' after')
  where
    abbrev OutcomesSettled : Type 0
    OutcomesSettled =
        Settled before after after' (answer_of o) (answer_of o') (board_left b o) (board_left b o')

    -- of a call that is lent the list
    of_call :
        (call : Call) → Keeps b call (answer_of o) (board_left b o) after
        → Keeps b call (answer_of o') (board_left b o') after'
        → Settled (lent call) after after' (answer_of o) (answer_of o') (board_left b o) (board_left b o')
    of_call call =
        call_settled b call after after' (answer_of o) (answer_of o') (board_left b o) (board_left b o')

    -- of what leaves board and list as they are
    of_untouched : Untouched b before o after → Untouched b before o' after' → OutcomesSettled
    of_untouched one other =
        let same : o ≡ o' = one.0 ∙ sym other.0 in
        untouched_settled before after after' (answer_of o) (answer_of o') (board_left b o) (board_left b o')
        (ap answer_of same) (ap (board_left b) same) one.1 other.1

    by_kind : (kind : Kind) → r.kind ≡ number_of kind → OutcomesSettled
    by_kind Admit e = of_call (admit before (request_admit r)) (p.known Admit e) (q.known Admit e)
    by_kind Act e = of_call (act before (request_act r)) (p.known Act e) (q.known Act e)
    by_kind Do e =
        let settled =
        call_settled b (do_duty (request_do r)) [] [] (answer_of o) (answer_of o') (board_left b o)
        (board_left b o') ((p.known Do e).0, refl) ((q.known Do e).0, refl) in
        let nothing = take-nil (answer_of o).length ∙ sym (take-nil (answer_of o').length) in
        untouched_settled before after after' (answer_of o) (answer_of o') (board_left b o) (board_left b o')
        (settled.chosen nothing).0 settled.board (p.known Do e).1 (q.known Do e).1
    by_kind Withdraw e =
        of_call (withdraw before (request_withdraw r)) (p.known Withdraw e) (q.known Withdraw e)
    by_kind Check e = of_call (check before) (p.known Check e) (q.known Check e)
    by_kind Walk e = of_call (walk before) (p.known Walk e) (q.known Walk e)
    by_kind Save e = of_untouched (p.known Save e) (q.known Save e)
    by_kind Poke e = of_untouched (p.known Poke e) (q.known Poke e)

    by_number : Numbered r.kind → OutcomesSettled
    by_number (known kind e) = by_kind kind e
    by_number (unknown none) = of_untouched (p.unknown none) (q.unknown none)

    -- Two outcomes of one record have one number, serial and board. With 8 the choice of failing order is
    -- free, and the list beyond each order is as it was.
    pub makes_settled : OutcomesSettled
    makes_settled = by_number (kind_or_none r.kind)

    -- With one answer they are one.
    pub one_outcome : answer_of o ≡ answer_of o' → o ≡ o'
    one_outcome same = same_outcome b o o' same makes_settled.board

    -- Without 8 they are equal, and leave the same list.
    pub same_made : ((answer_of o).number ≡ answer.red → ⊥) → (o ≡ o') × (after ≡ after')
    same_made f = let equal = makes_settled.equal f in (one_outcome equal.0, equal.1)
