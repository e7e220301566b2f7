-- The answer of save. A board value that breaks a rule gets 19, a buffer shorter than the file 20; else the
-- file is put at the start.
use mathlib.Core.Path.{◌≡◌, refl}
use mathlib.Core.Logic.{inl, inr}
use mathlib.Core.Bool.{true, false}
use mathlib.Core.List.{List}
use Prim.Native.Nat.{ℕ, ◌+◌, ◌≤◌, ◌<◌}
use native.Mathlib.Omega.{arith}
use lib.ListN.{length}
use Rattle.orders.proofs.Tests.{clash}
use Rattle.board.specs.declared.Board.{Board}
use Rattle.board.specs.Answers.{plain_answer, written_answer}
use Rattle.board.specs.Good.{good}
use Rattle.board.specs.Numbers as answer
use Rattle.put.specs.Put.{Put}
use Rattle.save.specs.Saves.{saved, Saves}

module _ (b : Board) (before : List ℕ) where
  pub broken : good b ≡ false → Saves b before before (plain_answer answer.broken)
  broken e =
      record {
        number = inl (e, refl);
        done = λ z. absurd (omega arith);
        refused = λ f. (refl, refl);
        serial = refl;
      }

  module _ (whole : good b ≡ true) where
    pub no_room : length before < length (saved b) → Saves b before before (plain_answer answer.room)
    no_room h =
        record {
          number = inr (λ e. clash whole e, inl (h, refl));
          done = λ z. absurd (omega arith);
          refused = λ f. (refl, refl);
          serial = refl;
        }

    pub written :
        (after : List ℕ) (n : ℕ) → length (saved b) ≤ length before → Put (saved b) before 0 after n
        → Saves b before after (written_answer n)
    written after n h p =
        let first : 0 + length (saved b) ≡ length (saved b) = omega arith in
        record {
          number = inr (λ e. clash whole e, inr (λ z. omega arith, refl));
          done = λ z. (rw first at p.list, rw first at p.place);
          refused = λ f. absurd (f refl);
          serial = refl;
        }
