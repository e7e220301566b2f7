-- A serial is never given twice on one live board. The idea: until another board is opened the next serial
-- never falls; every open serial is below it, and an accepted admission answers it and raises it by one.
use mathlib.Core.Path.{◌≡◌, refl, ap, ◌∙◌}
use mathlib.Core.List.{List, [], ◌∷◌}
use Prim.Native.Nat.{ℕ, ◌+◌, ◌≤◌, ◌<◌}
use native.Mathlib.Omega.{arith}
use lib.Dec.{eqb}
use lib.ListN.{length}
use borrow.Author.Tests.{eqb-true}
use Rattle.orders.specs.Lists.{Mem, Pairwise}
use Rattle.orders.proofs.Lists.{at_cons}
use Rattle.orders.proofs.Tests.{by_test}
use Rattle.board.specs.declared.Answer.{Answer}
use Rattle.board.specs.declared.Board.{Board}
use Rattle.board.specs.Numbers as answer
use Rattle.board.specs.Saying.{board_saying}
use Rattle.board.specs.View.{View, view}
use Rattle.board.specs.Answers.{NoneApplies}
use Rattle.board.proofs.GoodLaws.{good→records, records→range}
use Rattle.board.proofs.SayingLaws.{view_saying}
use Rattle.open.specs.Opens.{Opened, Opens}
use Rattle.requests.specs.declared.RequestAdmit.{RequestAdmit}
use Rattle.admit.specs.Admits.{after_admit, admit_checks, Admits}
use Rattle.promises.specs.Calls.{
  Call,
  open_file,
  admit,
  act,
  do_duty,
  withdraw,
  check,
  save,
  walk,
  Keeps,
  refused_board,
  Made,
  Calls,
}
use Rattle.promises.specs.Given.{given, all_given, NeverTwice}
use Rattle.promises.specs.GoodAndGreen.{Whole}
use Rattle.promises.proofs.AfterCalls.{after_fits}
use Rattle.promises.proofs.Kept.{checks_of, after_call, kept, done→none}
use Rattle.promises.proofs.StaysGreen.{step_whole, opened_green}

-- These serials rise, and none is below this number.
pub record RiseFrom (low : ℕ) (serials : List ℕ) : Type 0 where
  pub from : (n : ℕ) → Mem n serials → low ≤ n
  pub once : Pairwise (λ m n. m < n) serials

none_rise : (low : ℕ) → RiseFrom low []
none_rise low = record { from = λ n m. elim m [ ]; once = tt }

lower_rise : (low high : ℕ) (serials : List ℕ) → low ≤ high → RiseFrom high serials → RiseFrom low serials
lower_rise low high serials h r = record { from = λ n m. omega (arith, r.from n m); once = r.once }

first_rise :
    (low high n : ℕ) (serials : List ℕ) → n ≡ low → high ≡ low + 1 → RiseFrom high serials
    → RiseFrom low (n ∷ serials)
first_rise low high n serials e f r =
    record {
      from = λ k m. at_cons (λ q. omega arith) (λ l. omega (arith, r.from k l)) m;
      once = (λ k m. omega (arith, r.from k m), r.once);
    }

-- ---- one call

module _ (b : Board) (w : Whole b) where
  -- the next serial of the board after an accepted call
  next_after :
      (call : Call) → NoneApplies (checks_of b call)
      → (board_saying (after_call b call)).next.0 ≡ (after_call b call).next
  next_after call none =
      ap (λ (u : View). u.next) (view_saying (after_call b call) (after_fits b w call none))

  -- the next serial does not fall, where the promise names none that is lower
  rises :
      (call : Call) (r : Answer) (left : Board) (after : List ℕ) → Keeps b call r left after
      → b.next.0 ≤ (after_call b call).next → b.next.0 ≤ (refused_board b call).next.0
      → b.next.0 ≤ left.next.0
  rises call r left after k accepted refused =
      kept b call r left after k (λ (c : Board). b.next.0 ≤ c.next.0)
      (λ none. omega (arith, next_after call none, accepted)) refused

  -- after an accepted admission it is what the promise says
  admitted_next :
      (before after : List ℕ) (q : RequestAdmit) (r : Answer) (left : Board) → Admits b before q r left after
      → r.number ≡ answer.done → left.next.0 ≡ (after_admit b q).next
  admitted_next before after q r left k e =
      let none =
      done→none (admit_checks b (length before) q) b (after_admit b q) b.next.0 before after r left refl k e
      in
      ap (λ (c : Board). c.next.0) (k.accepted e).0 ∙ next_after (admit before q) none

  -- the serials from this call on, where those after it rise from the next serial that it leaves
  call_gives :
      (call : Call) (r : Answer) (left : Board) (after : List ℕ) → Keeps b call r left after
      → (later : List ℕ) → RiseFrom left.next.0 later → RiseFrom b.next.0 (given call r later)
  call_gives (open_file before s) r left after k later = λ rise. none_rise b.next.0
  call_gives (act before q) r left after k later =
      lower_rise _ _ later (rises (act before q) r left after k (omega arith) (omega arith))
  call_gives (do_duty q) r left after k later =
      lower_rise _ _ later (rises (do_duty q) r left after k (omega arith) (omega arith))
  call_gives (withdraw before q) r left after k later =
      lower_rise _ _ later (rises (withdraw before q) r left after k (omega arith) (omega arith))
  call_gives (check before) r left after k later =
      lower_rise _ _ later (rises (check before) r left after k (omega arith) (omega arith))
  call_gives (save before) r left after k later =
      lower_rise _ _ later (rises (save before) r left after k (omega arith) (omega arith))
  call_gives (walk before) r left after k later =
      lower_rise _ _ later (rises (walk before) r left after k (omega arith) (omega arith))
  call_gives (admit before q) r left after k later =
      λ rise.
      by_test
      (eqb r.number answer.done)
      (λ t.
      let e = eqb-true r.number answer.done t in
      rw t
      (first_rise _ _ r.serial.0 later (k.accepted e).1 (admitted_next before after q r left k e) rise))
      (λ f.
      rw f (lower_rise _ _ later (rises (admit before q) r left after k (omega arith) (omega arith)) rise))

-- ---- any calls

calls_give :
    (made : List Made) (b left : Board) → Whole b → Calls b made left → RiseFrom b.next.0 (all_given made)
calls_give [] b left w is = none_rise b.next.0
calls_give (m ∷ made) b left w (between, k, rest) =
    call_gives b w m.call m.answer between m.list k (all_given made)
    (calls_give made between left (step_whole b m.call m.answer between m.list k w) rest)

-- A serial is never given twice on one live board: over any calls, accepted or refused.
pub never_twice : (made : List Made) (b left : Board) → Whole b → Calls b made left → NeverTwice b made
never_twice made b left w calls =
    let gives = calls_give made b left w calls in
    let open_below = (records→range (view b) (good→records b w.is_good)).duties.each in
    record {
      above_open = λ n m d o. omega (arith, gives.from n m, (open_below d o).given);
      above_given = gives.once;
    }

-- And so on every live board that an open gives between them, accepted or refused: from there on the calls
-- are such calls again, whatever was before.
pub never_twice_opened :
    (s before after : List ℕ) (o : Opened) → Opens s before after o → (made : List Made) (left : Board)
    → Calls o.board made left → NeverTwice o.board made
never_twice_opened s before after o p made left =
    never_twice made o.board left (opened_green s before after o p).whole
