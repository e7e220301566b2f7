-- Laws of answers. Two answers to the same checks are one; the answer to a list of checks that another list
-- follows is a refusal of the first, or the answer to the second where the first refuses nothing.
use mathlib.Core.Path.{◌≡◌, sym, ◌∙◌}
use mathlib.Core.Logic.{inl, inr}
use mathlib.Core.Bool.{Bool, true, not, ◌&&◌}
use mathlib.Core.List.{List, [], ◌∷◌, ◌++◌}
use Prim.Native.Nat.{ℕ}
use lib.Dec.{eqb}
use borrow.Author.Tests.{eqb-false}
use Rattle.orders.proofs.Tests.{not_true, and_left, and_right}
use Rattle.board.specs.Answers.{Check, Answers, NoneApplies}
use Rattle.board.specs.Numbers as answer

pub same_answer : (cs : List Check) (m n : ℕ) → Answers cs m → Answers cs n → m ≡ n
same_answer [] m n p q = p ∙ sym q
same_answer (c ∷ cs) m n (inl p) (inl q) = p.1 ∙ sym q.1
same_answer (c ∷ cs) m n (inl p) (inr q) = absurd (q.0 p.0)
same_answer (c ∷ cs) m n (inr p) (inl q) = absurd (p.0 q.0)
same_answer (c ∷ cs) m n (inr p) (inr q) = same_answer cs m n p.1 q.1

-- ---- one list after another

-- no check of the list has this number: a test that computes on every list of checks written out
abbrev pub lacks : ℕ → List Check → Bool
lacks k [] = true
lacks k (c ∷ cs) = not (eqb c.number k) && lacks k cs

abbrev pub Lacks : ℕ → List Check → Type 0
Lacks k cs = lacks k cs ≡ true

-- every check of the list refuses: its number is not that of done
abbrev pub Refusing : List Check → Type 0
Refusing cs = Lacks answer.done cs

module _ (k : ℕ) (c : Check) (cs : List Check) (l : Lacks k (c ∷ cs)) where
  first_lacks : c.number ≡ k → ⊥
  first_lacks = eqb-false c.number k (not_true (eqb c.number k) (and_left _ (lacks k cs) l))

  rest_lacks : Lacks k cs
  rest_lacks = and_right (not (eqb c.number k)) (lacks k cs) l

-- a number that no check has is not answered
pub never_answered :
    (k : ℕ) (cs : List Check) (n : ℕ) → (k ≡ answer.done → ⊥) → Lacks k cs → Answers cs n → n ≡ k → ⊥
never_answered k [] n f l a e = f (sym e ∙ a)
never_answered k (c ∷ cs) n f l (inl a) e = first_lacks k c cs l (sym a.1 ∙ e)
never_answered k (c ∷ cs) n f l (inr a) e = never_answered k cs n f (rest_lacks k c cs l) a.1 e

-- done means that none applied
pub done_none : (cs : List Check) → Refusing cs → Answers cs answer.done → NoneApplies cs
done_none [] r a = tt
done_none (c ∷ cs) r (inl a) = absurd (first_lacks answer.done c cs r (sym a.1))
done_none (c ∷ cs) r (inr a) = (a.0, done_none cs (rest_lacks answer.done c cs r) a.1)

-- and where none applies, the answer is done
pub none_done : (cs : List Check) (n : ℕ) → NoneApplies cs → Answers cs n → n ≡ answer.done
none_done [] n none a = a
none_done (c ∷ cs) n none (inl a) = absurd (none.0 a.0)
none_done (c ∷ cs) n none (inr a) = none_done cs n none.1 a.1

-- a refusal by the first list is the answer
pub refused_first :
    (cs ds : List Check) (n : ℕ) → (n ≡ answer.done → ⊥) → Answers cs n → Answers (cs ++ ds) n
refused_first [] ds n f a = absurd (f a)
refused_first (c ∷ cs) ds n f (inl a) = inl a
refused_first (c ∷ cs) ds n f (inr a) = inr (a.0, refused_first cs ds n f a.1)

-- where the first list refuses nothing, the second answers
pub then_second : (cs ds : List Check) (n : ℕ) → NoneApplies cs → Answers ds n → Answers (cs ++ ds) n
then_second [] ds n f a = a
then_second (c ∷ cs) ds n f a = inr (f.0, then_second cs ds n f.1 a)

-- and where it refuses nothing, the answer is one to the second
pub past_first : (cs ds : List Check) (n : ℕ) → NoneApplies cs → Answers (cs ++ ds) n → Answers ds n
past_first [] ds n f a = a
past_first (c ∷ cs) ds n f (inl a) = absurd (f.0 a.0)
past_first (c ∷ cs) ds n f (inr a) = past_first cs ds n f.1 a.1

-- none of two lists applies just if none of each does
pub none_first : (cs ds : List Check) → NoneApplies (cs ++ ds) → NoneApplies cs
none_first [] ds n = tt
none_first (c ∷ cs) ds n = (n.0, none_first cs ds n.1)

pub none_second : (cs ds : List Check) → NoneApplies (cs ++ ds) → NoneApplies ds
none_second [] ds n = n
none_second (c ∷ cs) ds n = none_second cs ds n.1

pub none_both : (cs ds : List Check) → NoneApplies cs → NoneApplies ds → NoneApplies (cs ++ ds)
none_both [] ds n m = m
none_both (c ∷ cs) ds n m = (n.0, none_both cs ds n.1 m)
