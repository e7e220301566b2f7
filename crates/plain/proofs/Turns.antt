-- The loop of `walk_rest` over the duties: nothing was found with one of those so far in front, so what is
-- left of the pool finds what the whole pool finds, and the list is as it was.
use mathlib.Core.Path.{◌≡◌, refl, sym, ap}
use mathlib.Core.Bool.{Bool, not, cond}
use Rattle.std.specs.Prelude.{Option, Some}
use mathlib.Core.List.{List, [], ◌∷◌}
use Prim.Native.Nat.{ℕ, zero, suc, ◌-◌}
use native.Mathlib.Omega.{arith}
use lib.ListN.{drop}
use lib.Seq.{take-append_seam}
use Rattle.orders.specs.Lists.{any, keep}
use Rattle.orders.specs.Needs.{met}
use Rattle.orders.specs.Plain.{first_failing, first_found, in_front}
use Rattle.board.specs.declared.Board.{Board}
use Rattle.board.specs.declared.Duty.{Duty}
use Rattle.board.specs.After.{without_serial}
use Rattle.board.specs.Permitted.{held_in, asked_for, needs, changed}
use Rattle.board.specs.View.{view}
use Rattle.board.specs.Windows.{wholly_before}
use Rattle.after.specs.Boards.{acted_board, withdrawn_board, did_board}
use Rattle.plain.specs.Walking.{sets_world, walked}
use Rattle.plain.proofs.Found.{same_found}

module _ (b : Board) (left : ℕ) where
  abbrev pool : List Duty
  pool = (view b).duties

  -- d may come next
  abbrev pub comes_next : Duty → Bool
  comes_next d = not (any (λ y. wholly_before y d) pool)

  abbrev pub permitted_in : Duty → Bool
  permitted_in d =
      met (held_in b.holdings) (needs d.doer (asked_for (view b).permissions (view b).rules d.what))

  -- the board with d done
  abbrev pub done : Duty → Board
  done d = did_board b b.clock d.serial.0 d.what

  -- what is found where d comes next
  abbrev pub found_with : Duty → Option (List Duty)
  found_with d = cond (permitted_in d) (in_front d (walked (left - 1) (done d))) (Some (d ∷ []))

-- The duties below place i are tried; nothing was found, and the list is as it was.
pub record Tried (b : Board) (left : ℕ) (before now : List ℕ) (i : ℕ) : Type 0 where
  pub same :
      walked left b ≡ first_found (found_with b left) (keep (comes_next b left) (drop i (view b).duties))
  pub list : now ≡ before

-- ---- the board with a duty done

-- its walk is that of the pool without the duty, from the holdings with the change made
done_walks :
    (b : Board) (left k : ℕ) (d : Duty)
    → walked k (done b left d)
    ≡ first_failing (sets_world (view b).permissions (view b).rules) k (changed b.holdings d.what)
    (without_serial d.serial.0 (view b).duties)
unfolding acted_board withdrawn_board
done_walks b left k d =
    ap
    (λ (l : List Duty).
    first_failing (sets_world (view b).permissions (view b).rules) k (changed b.holdings d.what) l)
    (take-append_seam (without_serial d.serial.0 (view b).duties) _)

-- ---- the loop

module _ {b : Board} {left : ℕ} {before : List ℕ} where
  -- at the start nothing is tried
  pub begun : (left ≡ 0 → ⊥) → Tried b left before before 0
  begun more = record { same = go left more; list = refl }
    where
      one : (k : ℕ) (d : Duty)
          → walked (suc k - 1) (done b left d)
          ≡ first_failing (sets_world (view b).permissions (view b).rules) k (changed b.holdings d.what)
          (without_serial d.serial.0 (view b).duties)
      one k d = let e : suc k - 1 ≡ k = omega arith in rw e (done_walks b left k d)

      go : (left : ℕ) → (left ≡ 0 → ⊥)
          → walked left b ≡ first_found (found_with b left) (keep (comes_next b left) (view b).duties)
      go zero more = absurd (more refl)
      go (suc k) more =
          same_found
          (keep (comes_next b left) (view b).duties)
          (λ d m.
          ap
          (λ (o : Option (List Duty)). cond (permitted_in b left d) (in_front d o) (Some (d ∷ [])))
          (sym (one k d)))
