-- Opening what was saved gives the board back, and saving what was opened gives the bytes back. The idea:
-- what was saved reads back as the board (crate read_back), so open judges that very board.
use mathlib.Core.Path.{◌≡◌, refl, sym, ◌∙◌, ap, subst}
use mathlib.Core.Bool.{true}
use mathlib.Core.List.{List, ◌++◌}
use Prim.Native.Nat.{ℕ, ◌≤◌}
use native.Mathlib.Omega.{arith}
use lib.ListN.{length, take, drop}
use lib.Seq.{take_at}
use Rattle.orders.proofs.Tests.{clash, is_true}
use Rattle.board.specs.declared.Answer.{Answer}
use Rattle.board.specs.declared.Board.{Board}
use Rattle.board.specs.Answers.{Answers, NoneApplies}
use Rattle.board.specs.Filler.{Sized}
use Rattle.board.specs.Good.{good}
use Rattle.board.specs.Green.{Green, Red}
use Rattle.board.specs.Limits.{max_duties}
use Rattle.board.specs.Numbers as answer
use Rattle.board.specs.View.{View, view}
use Rattle.board.proofs.AnswersLaws.{none_done, done_none}
use Rattle.layout.specs.Bytes.{AreBytes}
use Rattle.file.specs.Reads.{board_of}
use Rattle.file.proofs.Accepted.{accepted_good}
use Rattle.save.specs.Saves.{saved, save_checks, Saves}
use Rattle.read_back.proofs.ReadBack.{file_read, board_back}
use Rattle.read_back.proofs.BytesBack.{bytes_back}
use Rattle.open.specs.Opens.{said, Opened, Opens}
use Rattle.open.proofs.Tick.{open_ticks}
use Rattle.promises.specs.Calls.{Made, Calls}
use Rattle.promises.specs.Judged.{Judged}
use Rattle.promises.specs.Saved.{file_in}
use Rattle.promises.proofs.Denied.{open_judged}
use Rattle.promises.proofs.StaysGreen.{opened_stays_green}

-- ---- opening what was saved

module _
    (b : Board) (sized : Sized b) (before after : List ℕ) (r : Answer) (k : Saves b before after r)
    (done : r.number ≡ answer.done)
  where
    -- it was not refused with 19
    is_good : good b ≡ true
    is_good =
        let checks = save_checks b (length before) in
        is_true (good b) (done_none checks refl (subst (Answers checks) done k.number)).0

    -- the file in the buffer is the board's
    pub saved_file : file_in after r ≡ saved b
    saved_file =
        ap (take r.length) (k.done done).0
        ∙ take_at (saved b) (drop (length (saved b)) before) r.length (sym (k.done done).1)

    module _
        (list list' : List ℕ) (o : Opened) (p : Opens (file_in after r) list list' o)
        (room : max_duties ≤ length list)
      where
        opens : Opens (saved b) list list' o
        opens = subst (λ (s : List ℕ). Opens s list list' o) saved_file p

        says : said (saved b) ≡ view b
        says = ap view (board_back b sized is_good)

        judged : Judged (view b) list list' o.answer
        judged =
            subst (λ (v : View). Judged v list list' o.answer) says
            (open_judged (saved b) list list' o
            (λ h. omega (arith, room), file_read b sized is_good) opens)

        -- from a green board: the answer is 0, and the board is that one
        pub saved_green : Green (view b) → (o.answer.number ≡ answer.done) × (o.board ≡ b)
        saved_green green =
            let opened = judged.accepted.1 green in
            (opened, opens.accepted opened ∙ board_back b sized is_good)

        -- from a red one: the answer is 8
        pub saved_red : Red (view b) → o.answer.number ≡ answer.red
        saved_red red = judged.denied.1 red

-- A board carried to another machine: opened, any calls made on it, saved and opened there, it is the board
-- that the calls left.
pub carried :
    (s list list' : List ℕ) (o : Opened) → Opens s list list' o → (made : List Made) (left : Board)
    → Calls o.board made left
    → (before after : List ℕ) (r : Answer) → Saves left before after r → r.number ≡ answer.done
    → (there there' : List ℕ) (u : Opened) → Opens (file_in after r) there there' u → max_duties ≤ length there
    → (u.answer.number ≡ answer.done) × (u.board ≡ left)
carried s list list' o p made left calls before after r k done there there' u q room =
    let g = opened_stays_green s list list' o p made left calls in
    saved_green left g.whole.sized before after r k done there there' u q room g.green

-- ---- saving what was opened

-- Every byte string that open accepts: with room for it, its bytes stand at the start of the buffer again.
pub opened_saves :
    (s list list' : List ℕ) (o : Opened) → AreBytes s → Opens s list list' o → o.answer.number ≡ answer.done
    → (before after : List ℕ) (r : Answer) → Saves o.board before after r → length s ≤ length before
    → (r.number ≡ answer.done) × (file_in after r ≡ s) × (after ≡ s ++ drop (length s) before)
opened_saves s list list' o bytes p e before after r k room =
    let none = ((open_ticks s list list' o p).0 e).read in
    let board : o.board ≡ board_of s = p.accepted e in
    let back : saved o.board ≡ s = ap saved board ∙ bytes_back s bytes none in
    let passes : NoneApplies (save_checks o.board (length before)) = (
      λ broken. clash (rw board (accepted_good s none)) broken,
      (λ short. omega (arith, room, ap length back), tt),
    ) in
    let number = none_done (save_checks o.board (length before)) r.number passes k.number in
    let file = ap (take r.length) (k.done number).0
    ∙ take_at (saved o.board) (drop (length (saved o.board)) before) r.length
    (sym (k.done number).1) in
    (number, file ∙ back, (k.done number).0 ∙ ap (λ (l : List ℕ). l ++ drop (length l) before) back)
