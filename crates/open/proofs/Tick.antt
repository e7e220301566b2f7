-- The tick of open: it answers 0 exactly if the lent list is long enough, no check of reading the file
-- applies, and the board that the file says is green; it answers 8 exactly if that board is red instead. An
-- accepted file's board is good and green.
use mathlib.Core.Path.{◌≡◌, refl, sym, subst}
use mathlib.Core.Logic.{◌↔◌, inl, inr}
use mathlib.Core.Bool.{true, not}
use mathlib.Core.List.{List, [], ◌∷◌, ◌++◌}
use Prim.Native.Nat.{ℕ, ◌≤◌}
use native.Mathlib.Omega.{arith}
use lib.Dec.{eqb}
use lib.ListN.{length}
use borrow.Author.Tests.{eqb-false}
use Rattle.orders.proofs.Tests.{not_true, and_left, and_right}
use Rattle.board.specs.Answers.{Check, Answers, NoneApplies}
use Rattle.board.specs.Good.{good}
use Rattle.board.specs.Green.{Green, Red}
use Rattle.board.specs.Limits.{max_duties}
use Rattle.board.specs.Numbers as answer
use Rattle.board.specs.View.{view}
use Rattle.board.proofs.AnswersLaws.{done_none, none_done, none_first, none_second, none_both}
use Rattle.board.proofs.AnswersLaws.{lacks, Lacks, same_answer, then_second}
use Rattle.board.proofs.GoodLaws.{good→records}
use Rattle.board.proofs.GreenLaws.{green_not_red, red_not_green}
use Rattle.file.specs.Reads.{read_checks, board_of}
use Rattle.file.proofs.Accepted.{accepted_good}
use Rattle.open.specs.Opens.{Opened, said, open_checks, Opens}
use Rattle.open.proofs.Opening.{red_check}

pub record Ticked (s : List ℕ) (room : ℕ) : Type 0 where
  pub list : max_duties ≤ room
  pub read : NoneApplies (read_checks s)
  pub green : Green (said s)

pub record Crossed (s : List ℕ) (room : ℕ) : Type 0 where
  pub list : max_duties ≤ room
  pub read : NoneApplies (read_checks s)
  pub red : Red (said s)

-- an answer that the first list lacks is one to the second, and none of the first applies
past_lacking :
    (k : ℕ) (cs ds : List Check) → Lacks k cs → Answers (cs ++ ds) k → NoneApplies cs × Answers ds k
past_lacking k [] ds l a = (tt, a)
past_lacking k (c ∷ cs) ds l (inl a) =
    absurd (eqb-false c.number k (not_true _ (and_left _ (lacks k cs) l)) (sym a.1))
past_lacking k (c ∷ cs) ds l (inr a) =
    let lacking = and_right (not (eqb c.number k)) (lacks k cs) l in
    let rest = past_lacking k cs ds lacking a.1 in ((a.0, rest.0), rest.1)

module _ (s before after : List ℕ) (r : Opened) (p : Opens s before after r) where
  done→ticked : r.answer.number ≡ answer.done → Ticked s (length before)
  done→ticked e =
      let checks = open_checks s (length before) in
      let none = done_none checks refl (subst (Answers checks) e p.number) in
      let read = none_first (read_checks s) (red_check s) none.1 in
      let short = none.0 in
      record {
        list = omega arith;
        read = read;
        green =
            green_not_red (said s) (good→records (board_of s) (accepted_good s read))
            (none_second (read_checks s) (red_check s) none.1).0;
      }

  ticked→done : Ticked s (length before) → r.answer.number ≡ answer.done
  ticked→done t =
      none_done (open_checks s (length before)) r.answer.number (
        λ h. let k = t.list in omega arith,
        none_both (read_checks s) (red_check s) t.read (λ red. red_not_green (said s) red t.green, tt),
      )
      p.number

  pub open_ticks : (r.answer.number ≡ answer.done) ↔ Ticked s (length before)
  open_ticks = (done→ticked, ticked→done)

  red→crossed : r.answer.number ≡ answer.red → Crossed s (length before)
  red→crossed e = go (subst (Answers (open_checks s (length before))) e p.number)
    where
      last : Answers (red_check s) answer.red → Red (said s)
      last (inl a) = a.0
      last (inr a) = let none = a.1 in absurd (omega arith)

      go : Answers (open_checks s (length before)) answer.red → Crossed s (length before)
      go (inl a) = let other = a.1 in absurd (omega arith)
      go (inr a) =
          let short = a.0 in
          let past = past_lacking answer.red (read_checks s) (red_check s) refl a.1 in
          record { list = omega arith; read = past.0; red = last past.1 }

  crossed→red : Crossed s (length before) → r.answer.number ≡ answer.red
  crossed→red t =
      same_answer (open_checks s (length before)) r.answer.number answer.red p.number
      (inr (
        λ h. let k = t.list in omega arith,
        then_second (read_checks s) (red_check s) answer.red t.read (inl (t.red, refl)),
      ))

  pub open_crosses : (r.answer.number ≡ answer.red) ↔ Crossed s (length before)
  open_crosses = (red→crossed, crossed→red)

  -- an accepted file gives a good and green board
  pub opened_right : r.answer.number ≡ answer.done → (good r.board ≡ true) × Green (view r.board)
  opened_right e =
      let t = done→ticked e in rw (p.accepted e) (accepted_good s t.read, t.green)
