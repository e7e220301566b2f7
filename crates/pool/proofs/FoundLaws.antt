-- What a search for a serial tells: where none is found no open duty has it; and what is found is the open
-- duty that has it.
use mathlib.Core.Path.{◌≡◌, sym, ◌∙◌, subst}
use mathlib.Core.Logic.{⊎_elim}
use Rattle.std.specs.Prelude.{None, Some}
use Rattle.std.proofs.lemmas.Option.{same_Some, none-some}
use Prim.Native.Nat.{ℕ}
use borrow.Author.Tests.{eqb-true, eqb-false}
use Rattle.orders.specs.Lists.{Mem, find}
use Rattle.orders.proofs.Lists.{any_false, mid, Finds, find_case}
use Rattle.board.specs.declared.Duty.{Duty}
use Rattle.board.specs.After.{named}
use Rattle.board.specs.Open.{NotOpen}
use Rattle.board.specs.View.{View}

-- d is open, has the serial, and is the one that a search finds
pub record FoundOpen (v : View) (serial : ℕ) (d : Duty) : Type 0 where
  pub open_duty : Mem d v.duties
  pub has_serial : d.serial.0 ≡ serial
  pub finds : find (named serial) v.duties ≡ Some d

module _ (v : View) (serial : ℕ) where
  pub found_missing : find (named serial) v.duties ≡ None → NotOpen v serial
  found_missing e d m is =
      ⊎_elim
      (λ n. eqb-false serial d.serial.0 (any_false (named serial) n.missed m) (sym is))
      (λ f. none-some f.x (sym e ∙ f.finds))
      (find_case (named serial) v.duties)

  pub found_open : (d : Duty) → find (named serial) v.duties ≡ Some d → FoundOpen v serial d
  found_open d e =
      ⊎_elim
      (λ n. absurd (none-some d (sym n.finds ∙ e)))
      (λ f. subst (FoundOpen v serial) (same_Some _ _ (sym f.finds ∙ e)) (first f))
      (find_case (named serial) v.duties)
    where
      first : (f : Finds (named serial) v.duties) → FoundOpen v serial f.x
      first f =
          record {
            open_duty = rw f.is (mid f.earlier f.later);
            has_serial = sym (eqb-true serial f.x.serial.0 f.passes);
            finds = f.finds;
          }
