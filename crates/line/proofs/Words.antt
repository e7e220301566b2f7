-- The word that a line begins with tells the kind of answer: `yes` exactly with 0, `no` exactly with 8, and
-- `refused` exactly with every other number. The words differ in their first letter.
use mathlib.Core.Path.{◌≡◌, ap}
use mathlib.Core.Logic.{◌↔◌, ◌⊎◌, inl, inr, ⊎_elim}
use mathlib.Core.List.{List, [], ◌∷◌, ◌++◌}
use Prim.Native.Nat.{ℕ, min}
use native.Mathlib.Omega.{arith}
use lib.Dec.{eqb}
use lib.ListN.{length, take, get_or}
use borrow.Author.Tests.{eqb-true, eqb-false, eq-eqb, ne_eqb}
use Rattle.orders.proofs.Tests.{by_test}
use Rattle.board.specs.declared.Answer.{Answer}
use Rattle.board.specs.Limits.{max_duties}
use Rattle.board.specs.Numbers as answer
use Rattle.line.specs.Line.{numbers, yes, no, refused, newline, line_of}

-- the first bytes of the line are those of the word
abbrev pub Begins : List ℕ → List ℕ → Type 0
Begins word line = take (length word) line ≡ word

first : List ℕ → ℕ
first l = get_or l 0 0

same_first : (d : ℕ) (word line : List ℕ) → Begins (d ∷ word) line → first line ≡ d
unfolding first
same_first d word [] b = let e : ◌≡◌ {A = ℕ} 0 1 = cc in absurd (omega arith)
same_first d word (x ∷ line) b = cc

module _ (r : Answer) (duties : ℕ) (list : List ℕ) where
  pub done_line : r.number ≡ answer.done → line_of r duties list ≡ yes ++ (numbers (duties ∷ []) ++ newline)
  unfolding line_of
  done_line e = rw (eq-eqb r.number answer.done e)

  pub red_line : r.number ≡ answer.red → line_of r duties list
      ≡ no ++ (numbers (r.length ∷ take (min r.length max_duties) list) ++ newline)
  unfolding line_of
  red_line e =
      let other : r.number ≡ answer.done → ⊥ = λ d. omega arith in
      rw (ne_eqb r.number answer.done other, eq-eqb r.number answer.red e)

  pub refused_line :
      (r.number ≡ answer.done → ⊥) → (r.number ≡ answer.red → ⊥)
      → line_of r duties list ≡ refused ++ (numbers (r.number ∷ []) ++ newline)
  unfolding line_of
  refused_line d f = rw (ne_eqb r.number answer.done d, ne_eqb r.number answer.red f)

  abbrev pub Other : Type 0
  Other = (r.number ≡ answer.done → ⊥) × (r.number ≡ answer.red → ⊥)

  -- the first letter is that of the word
  letter :
      ((first (line_of r duties list) ≡ 121) × (r.number ≡ answer.done))
      ⊎ (((first (line_of r duties list) ≡ 110) × (r.number ≡ answer.red))
      ⊎ ((first (line_of r duties list) ≡ 114) × Other))
  unfolding first
  letter =
      by_test
      (eqb r.number answer.done)
      (λ t. let e = eqb-true r.number answer.done t in inl (ap first (done_line e), e))
      (λ f.
      let d = eqb-false r.number answer.done f in
      by_test
      (eqb r.number answer.red)
      (λ t. let e = eqb-true r.number answer.red t in inr (inl (ap first (red_line e), e)))
      (λ g.
      let o = eqb-false r.number answer.red g in inr (inr (ap first (refused_line d o), (d, o)))))

  begins_yes : Begins yes (line_of r duties list) → r.number ≡ answer.done
  begins_yes b =
      let f = same_first 121 (101 ∷ 115 ∷ []) (line_of r duties list) b in
      ⊎_elim (λ a. a.1) (⊎_elim (λ a. absurd (omega arith)) (λ a. absurd (omega arith))) letter

  begins_no : Begins no (line_of r duties list) → r.number ≡ answer.red
  begins_no b =
      let f = same_first 110 (111 ∷ []) (line_of r duties list) b in
      ⊎_elim (λ a. absurd (omega arith)) (⊎_elim (λ a. a.1) (λ a. absurd (omega arith))) letter

  begins_refused : Begins refused (line_of r duties list) → Other
  begins_refused b =
      let f = same_first 114 (101 ∷ 102 ∷ 117 ∷ 115 ∷ 101 ∷ 100 ∷ []) (line_of r duties list) b in
      ⊎_elim (λ a. absurd (omega arith)) (⊎_elim (λ a. absurd (omega arith)) (λ a. a.1)) letter

  pub yes_done : Begins yes (line_of r duties list) ↔ (r.number ≡ answer.done)
  yes_done = (begins_yes, λ e. rw (done_line e))

  pub no_red : Begins no (line_of r duties list) ↔ (r.number ≡ answer.red)
  no_red = (begins_no, λ e. rw (red_line e))

  pub refused_other : Begins refused (line_of r duties list) ↔ Other
  refused_other = (begins_refused, λ o. rw (refused_line o.0 o.1))
