-- A session carried: what its calls leave is good and green, so with room for the longest file the save is
-- done, what it wrote opens with 0 and gives that very board, and a session that begins with it goes on where
-- this one ended. And what is written is settled by the session alone.
use mathlib.Core.Path.{◌≡◌, sym, subst, ap, ◌∙◌}
use mathlib.Core.Logic.{⊎_elim}
use mathlib.Core.List.Memᴰ
use mathlib.Core.List.{List, [], ◌∷◌, ◌++◌}
use Prim.Native.Nat.{ℕ, ◌≤◌}
use native.Mathlib.Omega.{arith}
use lib.ListN.{length}
use Rattle.orders.proofs.Tests.{clash}
use Rattle.board.specs.declared.Answer.{Answer}
use Rattle.board.specs.declared.Board.{Board}
use Rattle.board.specs.Answers.{NoneApplies}
use Rattle.board.specs.Limits.{max_duties}
use Rattle.board.specs.Numbers as answer
use Rattle.board.proofs.AnswersLaws.{none_done}
use Rattle.layout.specs.Layout.{header_size, longest}
use Rattle.save.specs.Saves.{saved, save_checks, Saves}
use Rattle.save.proofs.FileLaws.{saved_length, saved_fits}
use Rattle.save.proofs.Settled.{same_save}
use Rattle.open.specs.Opens.{Opened, Opens}
use Rattle.open.proofs.Tick.{open_ticks}
use Rattle.promises.specs.GoodAndGreen.{GoodAndGreen}
use Rattle.promises.specs.Saved.{file_in}
use Rattle.promises.proofs.Saved.{saved_file, saved_green}
use Rattle.promises.proofs.StaysGreen.{opened_stays_green}
use Rattle.session.specs.declared.Record.{Record}
use Rattle.session.specs.Played.{file_bytes, records_of, Played}
use Rattle.goes_on.specs.Asked.{EachIsCall}
use Rattle.goes_on.specs.Leaves.{Leaves}
use Rattle.goes_on.proofs.AsCalls.{played_calls}
use Rattle.goes_on.proofs.OneBoard.{played_settled}

-- ---- what is written

module _ (s : List ℕ) (left : Board) (c : Leaves s left) where
  -- What the session leaves is good and green.
  pub leaves_green : GoodAndGreen left
  leaves_green =
      let made = played_calls (records_of s) c.opened.board left c.calls c.played in
      opened_stays_green (file_bytes s) c.list c.list' c.opened c.opens made.0
      left made.2

  module _
      (before after : List ℕ) (r : Answer) (k : Saves left before after r) (room : longest ≤ length before)
    where
      -- With room for the longest file it is saved, and what is written is a header at least.
      pub carried_done : (r.number ≡ answer.done) × (header_size ≤ r.length)
      carried_done =
          let whole = leaves_green.whole in
          let passes : NoneApplies (save_checks left (length before)) = (
            λ broken. clash whole.is_good broken,
            (λ short. omega (arith, room, saved_fits left whole.sized whole.is_good), tt),
          ) in
          let number = none_done (save_checks left (length before)) r.number passes k.number in
          let total = saved_length left whole.sized whole.is_good in
          (number, omega (arith, (k.done number).1, total))

      -- What is written opens green, and gives the board that the session left.
      pub carried_green :
          (there there' : List ℕ) (u : Opened) → Opens (file_in after r) there there' u
          → max_duties ≤ length there → (u.answer.number ≡ answer.done) × (u.board ≡ left)
      carried_green there there' u p long =
          saved_green left leaves_green.whole.sized before after r k carried_done.0 there there' u p
          long leaves_green.green

-- ---- it is settled

-- A session leaves one board value.
pub leaves_settled : (s : List ℕ) (left left' : Board) → Leaves s left → Leaves s left' → left ≡ left'
leaves_settled s left left' c d =
    let same = d.opens.accepted d.accepted ∙ sym (c.opens.accepted c.accepted) in
    played_settled (records_of s) c.opened.board left left' c.played
    (subst (λ (b : Board). Played b (records_of s) left') same d.played)

-- Saved in the same buffer, two outcomes are one answer and leave one buffer.
pub same_carried :
    (s : List ℕ) (left left' : Board) → Leaves s left → Leaves s left'
    → (before after after' : List ℕ) (r r' : Answer) → Saves left before after r
    → Saves left' before after' r' → (r ≡ r') × (after ≡ after')
same_carried s left left' c d before after after' r r' k k' =
    same_save left before after after' r r' k
    (subst (λ (b : Board). Saves b before after' r') (sym (leaves_settled s left left' c d)) k')

-- In whatever buffers, with room for the longest file: two files carried from one session are the same bytes.
pub carried_settled :
    (s : List ℕ) (left left' : Board) → Leaves s left → Leaves s left'
    → (before after : List ℕ) (r : Answer) → Saves left before after r → longest ≤ length before
    → (before' after' : List ℕ) (r' : Answer) → Saves left' before' after' r' → longest ≤ length before'
    → (r ≡ r') × (file_in after r ≡ file_in after' r')
carried_settled s left left' c d before after r k room before' after' r' k' room' =
    let done = (carried_done s left c before after r k room).0 in
    let done' = (carried_done s left' d before' after' r' k' room').0 in
    let file : saved left ≡ saved left' = ap saved (leaves_settled s left left' c d) in
    let number = done ∙ sym done' in
    let serial = k.serial ∙ sym k'.serial in
    let long = (k.done done).1 ∙ ap length file ∙ sym (k'.done done').1 in (
      λ i. record { number = number i; serial = record { 0 = serial i }; length = long i },
      saved_file left (leaves_green s left c).whole.sized before after r k done
          ∙ file
          ∙ sym (saved_file left' (leaves_green s left' d).whole.sized before' after' r' k' done'),
    )

-- ---- it goes on

played_both :
    (records more : List Record) (b between left : Board) → Played b records between
    → Played between more left → Played b (records ++ more) left
played_both [] more b between left p q = subst (λ (c : Board). Played c more left) p q
played_both (r ∷ records) more b between left (next, turned, rest) q =
    (next, turned, played_both records more next between left rest q)

each_both : (records more : List Record) → EachIsCall records → EachIsCall more → EachIsCall (records ++ more)
each_both records more f g r m = ⊎_elim (f r) (g r) (Memᴰ.append_cases records m)

-- A session that begins with the file that was written goes on where this one ended: it leaves what one
-- session with the records of both leaves.
pub goes_on :
    (s t whole : List ℕ) (left last : Board) → Leaves s left → Leaves t last
    → (before after : List ℕ) (r : Answer) → Saves left before after r → longest ≤ length before
    → file_bytes t ≡ file_in after r → file_bytes whole ≡ file_bytes s
    → records_of whole ≡ records_of s ++ records_of t → Leaves whole last
goes_on s t whole left last c d before after r k room written file records =
    record {
      list = c.list;
      list' = c.list';
      opened = c.opened;
      opens = subst (λ (f : List ℕ). Opens f c.list c.list' c.opened) (sym file) c.opens;
      accepted = c.accepted;
      calls = rw records (each_both (records_of s) (records_of t) c.calls d.calls);
      played =
          rw records
          (played_both (records_of s) (records_of t) c.opened.board left last c.played
          (subst (λ (b : Board). Played b (records_of t) last) begins d.played));
    }
  where
    begins : d.opened.board ≡ left
    begins =
        (carried_green s left c before after r k room d.list d.list' d.opened
        (subst (λ (f : List ℕ). Opens f d.list d.list' d.opened) written d.opens)
        ((open_ticks (file_bytes t) d.list d.list' d.opened d.opens).0 d.accepted).list
        ).1
