-- A session leaves one board, whatever stood in the lists that its calls were lent: the checks of a call ask
-- only how long its list is, and their answer decides the board. So each record leaves one board value, and
-- records in turn do.
use mathlib.Core.Path.{◌≡◌, refl, sym, subst, ap, ◌∙◌}
use mathlib.Core.List.{List, [], ◌∷◌}
use Prim.Native.Nat.{ℕ}
use lib.Dec.{eqb}
use lib.ListN.{length}
use borrow.Author.Tests.{eqb-true, eqb-false}
use Rattle.std.specs.Prelude.{Result}
use Rattle.orders.proofs.Tests.{by_test}
use Rattle.board.specs.declared.Answer.{Answer}
use Rattle.board.specs.declared.Board.{Board}
use Rattle.board.specs.Answers.{Check, Answers}
use Rattle.board.specs.Called.{Called}
use Rattle.board.specs.Numbers as answer
use Rattle.board.specs.View.{View}
use Rattle.board.proofs.AnswersLaws.{same_answer}
use Rattle.board.specs.declared.Refusal.{Refusal}
use Rattle.outcomes.specs.declared.Accepted.{Accepted}
use Rattle.outcomes.specs.Outcomes.{answer_of, board_left}
use Rattle.admit.specs.Admits.{after_admit, admit_checks}
use Rattle.act.specs.ActsNow.{after_act, act_checks}
use Rattle.do_duty.specs.Does.{after_do, do_checks}
use Rattle.withdraw.specs.Withdraws.{after_withdraw, withdraw_checks}
use Rattle.session.specs.declared.kind.Kind.{Kind}
use Rattle.session.specs.declared.kind.Kind.TheVariants.{Admit, Act, Do, Withdraw, Check as Judge, Save, Walk, Poke}
use Rattle.session.specs.declared.Record.{Record}
use Rattle.session.specs.Kinds.{number_of}
use Rattle.session.specs.Played.{LeftByCall, Turned, Played}
use Rattle.session.specs.Sessions.{request_admit, request_act, request_do, request_withdraw, Makes}
use Rattle.goes_on.proofs.ByKind.{Numbered, known, unknown, kind_or_none}

-- ---- two outcomes of one record, lent lists of one length

-- of a call that may change the board
module _
    (checks : ℕ → List Check) (b : Board) (v : View) (serial : ℕ) (before before' after after' : List ℕ)
    (r r' : Answer) (left left' : Board) (long : length before ≡ length before')
    (p : Called (checks (length before)) b v serial before after r left)
    (q : Called (checks (length before')) b v serial before' after' r' left')
  where
    same_number : r.number ≡ r'.number
    same_number =
        same_answer (checks (length before)) r.number r'.number p.number
        (subst (λ (n : ℕ). Answers (checks n) r'.number) (sym long) q.number)

    same_left : left ≡ left'
    same_left =
        by_test
        (eqb r.number answer.done)
        (λ t.
        let e = eqb-true r.number answer.done t in
        (p.accepted e).0 ∙ sym (q.accepted (sym same_number ∙ e)).0)
        (λ f.
        let d = eqb-false r.number answer.done f in
        (p.refused d).0 ∙ sym (q.refused (λ e. d (same_number ∙ e))).0)

module _
    (b : Board) (r : Record) (before before' after after' : List ℕ) (o o' : Result Accepted Refusal)
    (long : length before ≡ length before') (p : Makes b r before o after) (q : Makes b r before' o' after')
  where
    -- by a call that may change the board
    left_by :
        (checks : ℕ → List Check) (v : View) (serial : ℕ)
        → Called (checks (length before)) b v serial before after (answer_of o) (board_left b o)
        → Called (checks (length before')) b v serial before' after' (answer_of o') (board_left b o')
        → board_left b o ≡ board_left b o'
    left_by checks v serial =
        same_left checks b v serial before before' after after' (answer_of o) (answer_of o')
        (board_left b o) (board_left b o') long

    -- by what leaves the board as it is
    both_same : board_left b o ≡ b → board_left b o' ≡ b → board_left b o ≡ board_left b o'
    both_same one other = one ∙ sym other

    by_kind : (kind : Kind) → r.kind ≡ number_of kind → board_left b o ≡ board_left b o'
    by_kind Admit e =
        let asked = request_admit r in
        left_by (λ n. admit_checks b n asked) (after_admit b asked) b.next.0 (p.known Admit e)
        (q.known Admit e)
    by_kind Act e =
        let asked = request_act r in
        left_by (λ n. act_checks b n asked) (after_act b asked) 0 (p.known Act e) (q.known Act e)
    by_kind Do e =
        let asked = request_do r in
        same_left (λ n. do_checks b asked) b (after_do b asked) 0 [] [] [] [] (answer_of o) (answer_of o')
        (board_left b o) (board_left b o') refl (p.known Do e).0 (q.known Do e).0
    by_kind Withdraw e =
        let asked = request_withdraw r in
        left_by (λ n. withdraw_checks b n asked) (after_withdraw b asked) 0 (p.known Withdraw e)
        (q.known Withdraw e)
    by_kind Judge e = both_same (p.known Judge e).1 (q.known Judge e).1
    by_kind Walk e = both_same (p.known Walk e).1 (q.known Walk e).1
    by_kind Save e = ap (board_left b) ((p.known Save e).0 ∙ sym (q.known Save e).0)
    by_kind Poke e = ap (board_left b) ((p.known Poke e).0 ∙ sym (q.known Poke e).0)

    by_number : Numbered r.kind → board_left b o ≡ board_left b o'
    by_number (known kind e) = by_kind kind e
    by_number (unknown none) = ap (board_left b) ((p.unknown none).0 ∙ sym (q.unknown none).0)

    -- Whatever stood in the lists, the board left is the same.
    pub same_board : board_left b o ≡ board_left b o'
    same_board = by_number (kind_or_none r.kind)

-- ---- a record, and records in turn

-- A record leaves one board value.
pub turned_settled :
    (b : Board) (r : Record) (left left' : Board) → Turned b r left → Turned b r left' → left ≡ left'
turned_settled b r left left' p q =
    by_test
    (eqb r.kind 9)
    (λ t. let e = eqb-true r.kind 9 t in p.poked e ∙ sym (q.poked e))
    (λ f. let d = eqb-false r.kind 9 f in called (p.called d) (q.called d))
  where
    called : LeftByCall b r left → LeftByCall b r left' → left ≡ left'
    called m n =
        m.is
        ∙ same_board b r m.before n.before m.after n.after m.result n.result
        (m.lent ∙ sym n.lent) m.makes n.makes
        ∙ sym n.is

-- Records played in turn leave one board value: two plays of the same records, calls and pokes.
pub played_settled :
    (records : List Record) (b left left' : Board) → Played b records left → Played b records left'
    → left ≡ left'
played_settled [] b left left' p q = p ∙ sym q
played_settled (r ∷ records) b left left' (between, turned, rest) (between', turned', rest') =
    let same = turned_settled b r between between' turned turned' in
    played_settled records between left left' rest
    (subst (λ (c : Board). Played c records left') (sym same) rest')
