-- What reading promises settles it: two readings of the same bytes that keep the promise are one.
use mathlib.Core.Path.{◌≡◌, refl, sym, ◌∙◌, ap}
use mathlib.Core.List.{List}
use Prim.Native.Nat.{ℕ}
use native.Mathlib.Omega.{arith}
use Rattle.std.specs.Prelude.{Result, Ok, Err}
use Rattle.board.specs.declared.Board.{Board}
use Rattle.board.specs.declared.Refusal.{Refusal}
use Rattle.board.specs.Numbers as answer
use Rattle.board.specs.Refusals.{number_of, number_answered}
use Rattle.board.proofs.AnswersLaws.{same_answer, never_answered}
use Rattle.file.specs.Reads.{read_checks, Reads}
use Rattle.board.proofs.RefusalLaws.{refusal_numbered, same_refusal}

-- a refusal is none of a red board
not_red : (s : List ℕ) (e : Refusal) → Reads s (Err e) → number_of e ≡ answer.red → ⊥
not_red s e p = never_answered answer.red (read_checks s) (number_of e) (λ n. omega arith) refl p.number

settled :
    (s : List ℕ) (a b : Result Board Refusal) → Reads s a → Reads s b
    → number_answered a ≡ number_answered b → a ≡ b
settled s (Ok x) (Ok y) p q n = ap Ok (p.accepted n ∙ sym (q.accepted n))
settled s (Ok x) (Err f) p q n = absurd (refusal_numbered f (sym n))
settled s (Err e) (Ok y) p q n = absurd (refusal_numbered e n)
settled s (Err e) (Err f) p q n = ap Err (same_refusal e f n (not_red s e p))

pub same_reading : (s : List ℕ) (a b : Result Board Refusal) → Reads s a → Reads s b → a ≡ b
same_reading s a b p q =
    settled s a b p q (same_answer (read_checks s) (number_answered a) (number_answered b) p.number q.number)
