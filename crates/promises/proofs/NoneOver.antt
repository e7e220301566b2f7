-- If no open window is over at the call's clock, an accepted admission leaves none over at its clock. The
-- idea: the board left has the open duties and the new one, whose window the check of 21 has passed. So
-- whoever never misses a duty can carry all out after it, as before.
use mathlib.Core.Path.{◌≡◌, refl, sym, ap, subst, ◌∙◌}
use mathlib.Core.Logic.{⊎_elim}
use mathlib.Core.Bool.{false}
use mathlib.Core.List.Memᴰ
use mathlib.Core.List.{List}
use Prim.Native.Nat.{ℕ}
use lib.ListN.{length}
use Rattle.orders.specs.Lists.{Mem}
use Rattle.orders.specs.Orders.{Order}
use Rattle.orders.proofs.Lists.{at_cons}
use Rattle.orders.proofs.Tests.{is_true, is_false}
use Rattle.board.specs.declared.Answer.{Answer}
use Rattle.board.specs.declared.Board.{Board}
use Rattle.board.specs.declared.Duty.{Duty}
use Rattle.board.specs.After.{with_serial}
use Rattle.board.specs.Answers.{NoneApplies}
use Rattle.board.specs.Filler.{Sized}
use Rattle.board.specs.Good.{good}
use Rattle.board.specs.Green.{world_of}
use Rattle.board.specs.Numbers as answer
use Rattle.board.specs.View.{View, view}
use Rattle.board.specs.Windows.{is_over}
use Rattle.board.proofs.SayingLaws.{view_saying}
use Rattle.requests.specs.declared.RequestAdmit.{RequestAdmit}
use Rattle.requests.specs.Requests.{asked}
use Rattle.admit.specs.Admits.{after_admit, admit_checks, Admits}
use Rattle.promises.specs.Calls.{admit}
use Rattle.promises.specs.GoodAndGreen.{Whole, GoodAndGreen}
use Rattle.promises.specs.InTurn.{NoneOverAt, NoneOver, DoneInTurn, CanBeDone}
use Rattle.promises.proofs.AfterCalls.{after_fits}
use Rattle.promises.proofs.CarriedOut.{all_done, can_be_done}
use Rattle.promises.proofs.Kept.{done→none}
use Rattle.promises.proofs.StaysGreen.{step_green}

module _
    (b : Board) (q : RequestAdmit) (before after : List ℕ) (r : Answer) (left : Board)
    (k : Admits b before q r left after) (accepted : r.number ≡ answer.done)
    (open_still : NoneOverAt q.clock b)
  where
    none : NoneApplies (admit_checks b (length before) q)
    none =
        done→none (admit_checks b (length before) q) b (after_admit b q) b.next.0 before after r left refl k
        accepted

    -- the window of the new duty is not over
    new_open : is_over q.clock (with_serial b.next.0 (asked q)) ≡ false
    new_open = is_false (is_over q.clock (with_serial b.next.0 (asked q))) none.1.1.1.1.1.0

    each_open : (d : Duty) → Mem d (after_admit b q).duties → is_over q.clock d ≡ false
    each_open d m =
        ⊎_elim (open_still d) (at_cons (λ e. rw e new_open) (λ n. elim n [ ]))
        (Memᴰ.append_cases (view b).duties m)

    -- From a board with no open window over at the call's clock, an accepted admission leaves none over.
    pub admit_none_over : Sized b → NoneOver left
    admit_none_over size =
        let w : Whole b = record { sized = size; is_good = is_true (good b) none.0 } in
        let says : view left ≡ after_admit b q =
        ap view (k.accepted accepted).0
        ∙ view_saying (after_admit b q) (after_fits b w (admit before q) none) in
        subst
        (λ (v : View). ((d : Duty) → Mem d v.duties → is_over v.clock d ≡ false))
        (sym says)
        each_open

    -- So on a green board it leaves what carrying out asks for, a green board with no open window over,
    pub admit_open_still : GoodAndGreen b → GoodAndGreen left × NoneOver left
    admit_open_still g = (
      step_green b (admit before q) r left after k g,
      admit_none_over g.whole.sized,
    )

    -- and in each allowed order of the board left all duties are done in turn.
    pub admit_all_done :
        GoodAndGreen b → (order : List Duty) → Order (world_of (view left)) (view left).duties order
        → DoneInTurn left order × CanBeDone left order
    admit_all_done g order o =
        let open_left = admit_open_still g in (
          all_done left open_left.0 open_left.1 order o,
          can_be_done left open_left.0 open_left.1 order o,
        )
