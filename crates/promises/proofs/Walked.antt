-- The plain walk answers as check does: on every board value of at most 8 duties, with the same lent
-- list, the two calls answer one number. For the checks of walk are those of check, with that of 22
-- between.
use mathlib.Core.Path.{◌≡◌}
use mathlib.Core.Logic.{inl, inr}
use mathlib.Core.List.{List}
use Prim.Native.Nat.{ℕ, ◌≤◌}
use native.Mathlib.Omega.{arith}
use lib.ListN.{length}
use Rattle.board.specs.declared.Answer.{Answer}
use Rattle.board.specs.declared.Board.{Board}
use Rattle.board.specs.Answers.{Answers}
use Rattle.board.specs.View.{view}
use Rattle.board.proofs.AnswersLaws.{same_answer}
use Rattle.plain.specs.Walks.{most, walk_checks, Walks}
use Rattle.verdict.specs.Checked.{check_checks, Checked}

module _ (b : Board) (room : ℕ) (few : length (view b).duties ≤ most) where
  -- an answer to walk's checks is one to check's
  as_checked : (n : ℕ) → Answers (walk_checks b room) n → Answers (check_checks b room) n
  as_checked n (inl broken) = inl broken
  as_checked n (inr (whole, inl short)) = inr (whole, inl short)
  as_checked n (inr (whole, inr (listed, inl (many, e)))) = absurd (omega arith)
  as_checked n (inr (whole, inr (listed, inr (not_many, judged)))) = inr (whole, inr (listed, judged))

pub walk_checks_lem :
    (b : Board) (before after after' : List ℕ) (r r' : Answer) → length (view b).duties ≤ most
    → Walks b before after r → Checked b before after' r' → r.number ≡ r'.number
walk_checks_lem b before after after' r r' few w c =
    same_answer (check_checks b (length before)) r.number r'.number
    (as_checked b (length before) few r.number w.number) c.number
