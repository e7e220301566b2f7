-- What a record asks for, by its kind, where its number is that of one.
use mathlib.Core.Path.{◌≡◌, sym, ap, ◌∙◌}
use Prim.Native.Nat.{ℕ}
use lib.Dec.{eqb}
use borrow.Author.Tests.{eqb-true, eqb-false}
use Rattle.orders.proofs.Tests.{by_test}
use Rattle.session.specs.declared.kind.Kind.{Kind}
use Rattle.session.specs.Kinds.{number_of}
use Rattle.session.proofs.Making.{kind_of, numbered}

pub data Numbered (n : ℕ) : Type 0 where
  known : (kind : Kind) → n ≡ number_of kind → Numbered n
  unknown : ((kind : Kind) → n ≡ number_of kind → ⊥) → Numbered n

-- each number is that of a kind or of none
pub kind_or_none : (n : ℕ) → Numbered n
kind_or_none n =
    by_test
    (eqb n (number_of (kind_of n)))
    (λ t. known (kind_of n) (eqb-true n _ t))
    (λ f. unknown (λ kind e. eqb-false n _ f (e ∙ ap number_of (sym (ap kind_of e ∙ numbered kind)))))
