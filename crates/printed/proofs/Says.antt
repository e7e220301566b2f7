-- What the line says of an input (document 01: "`yes` and the number of duties; `no`, the length of the order
-- and its serials; or `refused` and the number"): it begins with `yes` exactly if the file is accepted and
-- green, with `no` exactly if it is accepted but for being red, and with `refused` exactly if a check of
-- reading it applies. After `yes` stands the number of duties that the file says.
use mathlib.Core.Path.{◌≡◌, sym, ap, subst, ◌∙◌}
use mathlib.Core.Logic.{◌↔◌, ⊎_elim}
use mathlib.Core.List.{List, [], ◌∷◌, ◌++◌}
use Prim.Native.Nat.{ℕ, ◌≤◌, ◌<◌}
use native.Mathlib.Omega.{arith}
use lib.ListN.{length, take, length-replicate}
use lib.Seq.{take_at}
use Rattle.board.specs.Answers.{check, NoneApplies}
use Rattle.board.specs.Green.{Green, Red}
use Rattle.board.specs.Limits.{max_duties}
use Rattle.board.specs.Numbers as answer
use Rattle.board.proofs.AnswersLaws.{past_first}
use Rattle.file.specs.Reads.{read_checks, board_of}
use Rattle.line.specs.Line.{yes, no, refused, numbers, newline, line_of}
use Rattle.line.proofs.Words.{Begins, done_line, yes_done, no_red, refused_other}
use Rattle.open.specs.Opens.{said}
use Rattle.open.proofs.Opening.{red_check}
use Rattle.open.proofs.Tick.{open_ticks, open_crosses}
use Rattle.printed.specs.Printed.{cut, lent_list, Printed}

-- no check of reading the file applies
abbrev pub Readable : List ℕ → Type 0
Readable s = NoneApplies (read_checks s)

-- the lent list is long enough
room : max_duties ≤ length lent_list
room = omega (arith, length-replicate {A = ℕ} max_duties 0)

module _ (input before after : List ℕ) (n : ℕ) (p : Printed input before after n) where
  abbrev number : ℕ
  number = p.opened.answer.number

  abbrev line : List ℕ
  line = line_of p.opened.answer p.opened.board.counts.duties p.list

  -- what is printed
  printed_is : take n after ≡ line
  printed_is =
      let e : length line ≡ n = omega (arith, p.line.place) in
      ap (take n) p.line.list ∙ take_at line _ n e

  begins : (word : List ℕ) → Begins word (take n after) ↔ Begins word line
  begins word = (subst (Begins word) printed_is, subst (Begins word) (sym printed_is))

  ticks : (number ≡ answer.done) ↔ (Readable (cut input) × Green (said (cut input)))
  ticks =
      let t = open_ticks (cut input) lent_list p.list p.opened p.opens in (
        λ e. let k = t.0 e in (k.read, k.green),
        λ a. t.1 (record { list = room; read = a.0; green = a.1 }),
      )

  crosses : (number ≡ answer.red) ↔ (Readable (cut input) × Red (said (cut input)))
  crosses =
      let t = open_crosses (cut input) lent_list p.list p.opened p.opens in (
        λ e. let k = t.0 e in (k.read, k.red),
        λ a. t.1 (record { list = room; read = a.0; red = a.1 }),
      )

  -- `yes`: accepted and green
  pub says_yes : Begins yes (take n after) ↔ (Readable (cut input) × Green (said (cut input)))
  says_yes =
      let w = yes_done p.opened.answer p.opened.board.counts.duties p.list in (
        λ b. ticks.0 (w.0 ((begins yes).0 b)),
        λ a. (begins yes).1 (w.1 (ticks.1 a)),
      )

  -- `no`: accepted but for being red
  pub says_no : Begins no (take n after) ↔ (Readable (cut input) × Red (said (cut input)))
  says_no =
      let w = no_red p.opened.answer p.opened.board.counts.duties p.list in (
        λ b. crosses.0 (w.0 ((begins no).0 b)),
        λ a. (begins no).1 (w.1 (crosses.1 a)),
      )

  -- past reading there is no other answer than 8 and 0
  no_other : Readable (cut input) → (number ≡ answer.done → ⊥) → (number ≡ answer.red → ⊥) → ⊥
  no_other a d f =
      let short = check answer.list (length lent_list < max_duties) in
      let long_enough : length lent_list < max_duties → ⊥ = λ h. let k = room in omega arith in
      ⊎_elim
      (λ r. f r.1)
      (λ o. d o.1)
      (past_first (short ∷ read_checks (cut input)) (red_check (cut input)) number (long_enough, a)
      p.opens.number)

  -- `refused`: not accepted
  pub says_refused : Begins refused (take n after) ↔ (Readable (cut input) → ⊥)
  says_refused =
      let w = refused_other p.opened.answer p.opened.board.counts.duties p.list in (
        λ b a. let o = w.0 ((begins refused).0 b) in no_other a o.0 o.1,
        λ f. (begins refused).1 (w.1 (λ e. f (ticks.0 e).0, λ e. f (crosses.0 e).0)),
      )

  -- `yes` and the number of duties
  pub yes_line :
      Readable (cut input) → Green (said (cut input))
      → take n after ≡ yes ++ (numbers ((board_of (cut input)).counts.duties ∷ []) ++ newline)
  yes_line a g =
      let e = ticks.1 (a, g) in
      let d = ap (λ b. yes ++ (numbers (b.counts.duties ∷ []) ++ newline)) (p.opens.accepted e) in
      printed_is ∙ done_line p.opened.answer p.opened.board.counts.duties p.list e ∙ d
