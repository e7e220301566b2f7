-- Laws of refusals: the number of none is that of done, only a red board comes with a length, and number and
-- length tell which it is.
use mathlib.Core.Path.{◌≡◌, refl, sym, ap, ◌∙◌}
use mathlib.Core.Bool.{true, false, cond}
use Prim.Native.Nat.{ℕ}
use native.Mathlib.Omega.{arith}
use lib.Dec.{eqb}
use Rattle.std.specs.Prelude.{Result, Ok, Err}
use Rattle.std.proofs.Common.{is_err}
use Rattle.board.specs.declared.Answer.{Answer}
use Rattle.board.specs.declared.Refusal.{Refusal}
use Rattle.board.specs.declared.Refusal.TheVariants.{Short, Version, Count, Layout, Field, NotAbove, Window, Red}
use Rattle.board.specs.declared.Refusal.TheVariants.{List, Clock, Request, NotOpen, Outside, HeldBack}
use Rattle.board.specs.declared.Refusal.TheVariants.{NotPermitted, Full, Spent, Long, Broken, Room, Over, Many}
use Rattle.board.specs.Answers.{plain_answer}
use Rattle.board.specs.Numbers as answer
use Rattle.board.specs.Refusals.{number_of, length_of, refused_answer, number_answered}

-- the refusal of this number and length
abbrev refusal_of : ℕ → ℕ → Refusal
refusal_of n length =
    cond (eqb n answer.short) Short
    (cond (eqb n answer.version) Version
    (cond (eqb n answer.count) Count
    (cond (eqb n answer.layout) Layout
    (cond (eqb n answer.field) Field
    (cond (eqb n answer.not_above) NotAbove
    (cond (eqb n answer.window) Window
    (cond (eqb n answer.red) (Red length)
    (cond (eqb n answer.list) List
    (cond (eqb n answer.clock) Clock
    (cond (eqb n answer.request) Request
    (cond (eqb n answer.not_open) NotOpen
    (cond (eqb n answer.outside) Outside
    (cond (eqb n answer.held_back) HeldBack
    (cond (eqb n answer.not_permitted) NotPermitted
    (cond (eqb n answer.full) Full
    (cond (eqb n answer.spent) Spent
    (cond (eqb n answer.long) Long
    (cond (eqb n answer.broken) Broken
    (cond (eqb n answer.room) Room
    (cond (eqb n answer.over) Over Many))))))))))))))))))))

record Numbered (e : Refusal) : Type 0 where
  refuses : number_of e ≡ answer.done → ⊥
  plain : (number_of e ≡ answer.red → ⊥) → length_of e ≡ 0
  told : refusal_of (number_of e) (length_of e) ≡ e

numbered : (e : Refusal) → Numbered e
numbered Short = record { refuses = λ q. omega arith; plain = λ f. refl; told = refl }
numbered Version = record { refuses = λ q. omega arith; plain = λ f. refl; told = refl }
numbered Count = record { refuses = λ q. omega arith; plain = λ f. refl; told = refl }
numbered Layout = record { refuses = λ q. omega arith; plain = λ f. refl; told = refl }
numbered Field = record { refuses = λ q. omega arith; plain = λ f. refl; told = refl }
numbered NotAbove = record { refuses = λ q. omega arith; plain = λ f. refl; told = refl }
numbered Window = record { refuses = λ q. omega arith; plain = λ f. refl; told = refl }
numbered (Red length) = record { refuses = λ q. omega arith; plain = λ f. absurd (f refl); told = refl }
numbered List = record { refuses = λ q. omega arith; plain = λ f. refl; told = refl }
numbered Clock = record { refuses = λ q. omega arith; plain = λ f. refl; told = refl }
numbered Request = record { refuses = λ q. omega arith; plain = λ f. refl; told = refl }
numbered NotOpen = record { refuses = λ q. omega arith; plain = λ f. refl; told = refl }
numbered Outside = record { refuses = λ q. omega arith; plain = λ f. refl; told = refl }
numbered HeldBack = record { refuses = λ q. omega arith; plain = λ f. refl; told = refl }
numbered NotPermitted = record { refuses = λ q. omega arith; plain = λ f. refl; told = refl }
numbered Full = record { refuses = λ q. omega arith; plain = λ f. refl; told = refl }
numbered Spent = record { refuses = λ q. omega arith; plain = λ f. refl; told = refl }
numbered Long = record { refuses = λ q. omega arith; plain = λ f. refl; told = refl }
numbered Broken = record { refuses = λ q. omega arith; plain = λ f. refl; told = refl }
numbered Room = record { refuses = λ q. omega arith; plain = λ f. refl; told = refl }
numbered Over = record { refuses = λ q. omega arith; plain = λ f. refl; told = refl }
numbered Many = record { refuses = λ q. omega arith; plain = λ f. refl; told = refl }

pub refusal_numbered : (e : Refusal) → number_of e ≡ answer.done → ⊥
refusal_numbered e = (numbered e).refuses

-- a refusal that is none of a red board answers its number alone
pub plainly_refused :
    (e : Refusal) → (number_of e ≡ answer.red → ⊥) → refused_answer e ≡ plain_answer (number_of e)
plainly_refused e f =
    ap (λ (n : ℕ). record { number = number_of e; serial = record { 0 = 0 }; length = n }) ((numbered e).plain f)

-- two refusals that answer the same are one
pub refusal_answered : (e f : Refusal) → refused_answer e ≡ refused_answer f → e ≡ f
refusal_answered e f same =
    sym ((numbered e).told)
    ∙ ap (λ (r : Answer). refusal_of r.number r.length) same
    ∙ (numbered f).told

-- and two of one number, where it is not that of a red board
pub same_refusal : (e f : Refusal) → number_of e ≡ number_of f → (number_of e ≡ answer.red → ⊥) → e ≡ f
same_refusal e f same n =
    refusal_answered e f
    (plainly_refused e n ∙ ap plain_answer same ∙ sym (plainly_refused f (λ r. n (same ∙ r))))

-- a result is a refusal exactly if its number is not that of done
pub err_numbered :
    {A : Type 0} (r : Result A Refusal) → is_err r ≡ true → number_answered r ≡ answer.done → ⊥
err_numbered (Ok a) e q = cc
err_numbered (Err f) e q = refusal_numbered f q

pub ok_numbered : {A : Type 0} (r : Result A Refusal) → is_err r ≡ false → number_answered r ≡ answer.done
ok_numbered (Ok a) e = refl
ok_numbered (Err f) e = cc
