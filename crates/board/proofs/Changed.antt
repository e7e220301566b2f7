-- What a duty changes is what document 01's sentences say (specs/Sentences.antt): a grant and a revoke set
-- one holding and no other, a use none.
use mathlib.Core.Path.{◌≡◌, refl, sym, ◌∙◌}
use mathlib.Core.Logic.{◌↔◌}
use mathlib.Core.Bool.{Bool, true, false, cond}
use lib.Dec.{eqb}
use borrow.Author.Tests.{eqb-true, eq-eqb}
use Rattle.orders.specs.Needs.{change}
use Rattle.orders.proofs.Tests.{by_test, clash, is_false, and_true}
use Rattle.board.specs.declared.Duty.{Duty}
use Rattle.board.specs.declared.What.{What}
use Rattle.board.specs.declared.What.TheVariants.{Grant, Revoke, Use}
use Rattle.board.specs.View.{View}
use Rattle.board.specs.Permitted.{Holding, effect_of, same_holding}
use Rattle.board.specs.Green.{duties_of, world_of}
use Rattle.board.specs.Sentences.{Sets, Change}

same_is : (h k : Holding) → same_holding h k ≡ true ↔ k ≡ h
same_is h k = (
  λ e.
      let r = and_true (eqb h.0 k.0) (eqb h.1 k.1) e in
      let user : k.0 ≡ h.0 = sym (eqb-true h.0 k.0 r.0) in
      let role : k.1 ≡ h.1 = sym (eqb-true h.1 k.1 r.1) in
      λ i. (user i, role i),
  λ q. rw q (rw (eq-eqb h.0 h.0 refl, eq-eqb h.1 h.1 refl)),
)

sets_one_lem :
    (s : Holding → Bool) (h : Holding) (held : Bool)
    → Sets s h held (λ k. cond (same_holding h k) held (s k))
sets_one_lem s h held =
    record {
      there = rw ((same_is h h).1 refl);
      elsewhere = λ k n. rw (is_false (same_holding h k) (λ e. n ((same_is h k).0 e)));
    }

-- what doing a duty changes
pub after_is : (v : View) (s : Holding → Bool) (d : Duty) → Change s d.what ((world_of v).after s d)
after_is v s d = go d.what
  where
    go : (what : What) → Change s what (change (duties_of v) s (effect_of what))
    go (Grant target role) = sets_one_lem s (target, role) true
    go (Revoke target role) = sets_one_lem s (target, role) false
    go (Use action object) = λ h. refl

-- a grant of a role already held and a revoke of one not held change nothing
pub no_change :
    (s after : Holding → Bool) (h : Holding) (held : Bool) → Sets s h held after → s h ≡ held
    → (k : Holding) → after k ≡ s k
no_change s after h held c e k =
    by_test
    (same_holding h k)
    (λ t. rw ((same_is h k).0 t) (c.there ∙ sym e))
    (λ f. c.elsewhere k (λ q. clash ((same_is h k).1 q) f))
