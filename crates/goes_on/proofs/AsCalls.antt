-- Records played in turn, each of which asks for a call, are calls in turn on the board, one for each record.
-- So what is proved of any calls is true of a session. A save leaves the board as it is, and its answer is no
-- part of what is played; there is always an outcome that keeps its promise.
use mathlib.Core.Path.{◌≡◌, refl, sym, subst, ap, ◌∙◌}
use mathlib.Core.Logic.{inr}
use mathlib.Core.Bool.{true}
use mathlib.Core.List.{List, [], ◌∷◌, ◌++◌}
use Prim.Native.Nat.{ℕ, suc, ◌≤◌, min}
use native.Mathlib.Omega.{arith}
use Rattle.std.specs.Prelude.{Result}
use lib.Dec.{ltb}
use lib.ListN.{length, drop, replicate, length-replicate}
use borrow.Author.Tests.{ltb-true, ltb-false}
use Rattle.orders.specs.Lists.{here, there}
use Rattle.orders.proofs.Tests.{by_test, clash}
use Rattle.board.specs.declared.Answer.{Answer}
use Rattle.board.specs.declared.Board.{Board}
use Rattle.board.specs.Answers.{written_answer}
use Rattle.board.specs.Good.{good}
use Rattle.save.specs.Saves.{saved, Saves}
use Rattle.save.proofs.Saving.{broken, no_room}
use Rattle.board.specs.declared.Refusal.{Refusal}
use Rattle.outcomes.specs.declared.Accepted.{Accepted}
use Rattle.outcomes.specs.Outcomes.{answer_of, board_left}
use Rattle.promises.specs.Calls.{Call, admit, act, do_duty, withdraw, check, save, walk}
use Rattle.promises.specs.Calls.{Keeps, Made, Calls}
use Rattle.session.specs.declared.kind.Kind.{Kind}
use Rattle.session.specs.declared.kind.Kind.TheVariants.{Admit, Act, Do, Withdraw, Check, Save, Walk, Poke}
use Rattle.session.specs.declared.Record.{Record}
use Rattle.session.specs.Kinds.{number_of}
use Rattle.session.specs.Input.{lent_by}
use Rattle.session.specs.Played.{Played}
use Rattle.session.specs.Sessions.{request_admit, request_act, request_do, request_withdraw, Makes}
use Rattle.goes_on.specs.Asked.{IsCall, EachIsCall, call_of, lent_to, Asks, AskFor}
use Rattle.goes_on.proofs.ByKind.{Numbered, known, unknown, kind_or_none}

-- a record that asks for a call is no poke
no_poke : (r : Record) → IsCall r → r.kind ≡ 9 → ⊥
no_poke r call e = omega (arith, call)

-- ---- a save

record SomeSave (b : Board) (before : List ℕ) : Type 0 where
  after : List ℕ
  answers : Answer
  saves : Saves b before after answers

module _ (b : Board) (before : List ℕ) where
  -- the buffer has room for the file
  all_written : good b ≡ true → length (saved b) ≤ length before → SomeSave b before
  all_written whole room =
      record {
        after = saved b ++ drop (length (saved b)) before;
        answers = written_answer (length (saved b));
        saves =
            record {
              number = inr (λ e. clash whole e, inr (λ short. omega (arith, room), refl));
              done = λ _. (refl, refl);
              refused = λ f. absurd (f refl);
              serial = refl;
            };
      }

  -- on every board and with every buffer there is an outcome of save
  some_save : SomeSave b before
  some_save =
      by_test
      (good b)
      (λ whole.
      by_test
      (ltb (length before) (length (saved b)))
      (λ t. record { after = before; answers = _; saves = no_room b before whole (ltb-true _ _ t) })
      (λ f. all_written whole (ltb-false _ _ f)))
      (λ e. record { after = before; answers = _; saves = broken b before e })

-- ---- a record

-- The record r asks for a call, and this board value is left by an outcome that keeps its promise.
record CallMade (b : Board) (r : Record) (left : Board) : Type 0 where
  made : Made
  asks : Asks r made.call
  keeps : Keeps b made.call made.answer left made.list

module _
    (b : Board) (r : Record) (before after : List ℕ) (result : Result Accepted Refusal) (call : IsCall r)
    (long : length before ≡ lent_by r.lent) (p : Makes b r before result after)
  where
    -- lent the list that the record was lent
    with_list :
        (call : Call) (list : List ℕ) → call ≡ call_of r before → lent_by r.lent ≡ lent_to r
        → Keeps b call (answer_of result) (board_left b result) list → CallMade b r (board_left b result)
    with_list call list is room keeps =
        record {
          made = record { call = call; answer = answer_of result; list = list };
          asks = record { before = before; lent = long ∙ room; is = is };
          keeps = keeps;
        }

    by_kind : (kind : Kind) → r.kind ≡ number_of kind → CallMade b r (board_left b result)
    by_kind Admit e = with_list (admit before (request_admit r)) after (rw e) (rw e) (p.known Admit e)
    by_kind Act e = with_list (act before (request_act r)) after (rw e) (rw e) (p.known Act e)
    by_kind Do e = with_list (do_duty (request_do r)) [] (rw e) (rw e) ((p.known Do e).0, refl)
    by_kind Withdraw e =
        with_list (withdraw before (request_withdraw r)) after (rw e) (rw e) (p.known Withdraw e)
    by_kind Check e = with_list (check before) after (rw e) (rw e) (p.known Check e)
    by_kind Walk e = with_list (walk before) after (rw e) (rw e) (p.known Walk e)
    by_kind Poke e = absurd (omega (arith, call))
    by_kind Save e =
        let room = min r.extra 8192 in
        let buffer : List ℕ = replicate room 0 in
        let some = some_save b buffer in
        record {
          made = record { call = save buffer; answer = some.answers; list = some.after };
          asks = record { before = buffer; lent = rw e (length-replicate room 0); is = rw e };
          keeps = (some.saves, ap (board_left b) (p.known Save e).0);
        }

    by_number : Numbered r.kind → CallMade b r (board_left b result)
    by_number (known kind e) = by_kind kind e
    by_number (unknown none) =
        absurd
        (omega (
          arith,
          call,
          none Admit,
          none Act,
          none Do,
          none Withdraw,
          none Check,
          none Save,
          none Walk,
        ))

    made_call : CallMade b r (board_left b result)
    made_call = by_number (kind_or_none r.kind)

-- ---- records in turn

-- Where each record asks for a call, records played in turn are calls made in turn: those that they ask for.
pub played_calls :
    (records : List Record) (b left : Board) → EachIsCall records → Played b records left
    → (made : List Made) × AskFor records made × Calls b made left
played_calls [] b left each p = ([], tt, p)
played_calls (r ∷ records) b left each (between, turned, rest) =
    let call = each r (here refl) in
    let left_by = turned.called (no_poke r call) in
    let one = subst (CallMade b r) (sym left_by.is)
    (made_call b r left_by.before left_by.after left_by.result call left_by.lent
    left_by.makes) in
    let others = played_calls records between left (λ s m. each s (there m)) rest in
    (one.made ∷ others.0, (one.asks, others.1), (between, one.keeps, others.2))

-- one call for each record
pub one_each : (records : List Record) (made : List Made) → AskFor records made → length made ≡ length records
one_each [] [] asked = refl
one_each [] (m ∷ made) asked = absurd asked
one_each (r ∷ records) [] asked = absurd asked
one_each (r ∷ records) (m ∷ made) asked = ap suc (one_each records made asked.1)
