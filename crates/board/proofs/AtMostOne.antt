-- At most one permission for each action and object, and at most one rule of each kind for each role, since
-- the records rise. So what is said of the first that is found is said of the one that is there.
use mathlib.Core.Path.{◌≡◌, sym, ◌∙◌}
use mathlib.Core.Logic.{◌↔◌, ⊎_elim}
use mathlib.Core.Bool.{Bool, true, false, ◌&&◌}
use Rattle.std.specs.Prelude.{Option, None, Some}
use mathlib.Core.List.{List, [], ◌∷◌}
use Prim.Native.Nat.{ℕ}
use lib.Dec.{eqb}
use borrow.Author.Tests.{eqb-true, eq-eqb}
use Rattle.orders.specs.Lists.{Mem, here, there, find, Pairwise}
use Rattle.orders.proofs.Tests.{clash, and_true}
use Rattle.orders.proofs.Lists.{any_false, mid, Finds, find_case}
use Rattle.board.specs.declared.Permission.{Permission}
use Rattle.board.specs.declared.Rule.{Rule}
use Rattle.board.specs.View.{View}
use Rattle.board.specs.Good.{permission_below, rule_below, records_fit}
use Rattle.board.proofs.Rising.{pair_differs}
use Rattle.board.proofs.GoodLaws.{records→range}

-- two members are one if neither may stand before the other
one_of :
    {A : Type 0} (R : A → A → Type 0) (l : List A) → Pairwise R l → {x y : A} → Mem x l → Mem y l
    → (R x y → ⊥) → (R y x → ⊥) → x ≡ y
one_of {A = A} R [] h {x = x} {y = y} x7 _ f g = elim x7 [ ]
one_of R (z ∷ l) h (here p) (here q) f g = p ∙ sym q
one_of R (z ∷ l) h {y = y} (here p) (there n) f g = absurd (f (rw p (h.0 y n)))
one_of R (z ∷ l) h {x} (there m) (here q) f g = absurd (g (rw q (h.0 x m)))
one_of R (z ∷ l) h (there m) (there n) f g = one_of R l h.1 m n f g

module _ (v : View) (fit : records_fit v ≡ true) where
  -- at most one permission for each action and object
  pub one_permission :
      (p q : Permission) → Mem p v.permissions → Mem q v.permissions → p.action ≡ q.action
      → p.object ≡ q.object → p ≡ q
  one_permission p q m n e f =
      one_of
      (λ p q. permission_below p q ≡ true)
      v.permissions
      (records→range v fit).permissions.rise
      m
      n
      (λ b. pair_differs p.action p.object q.action q.object b e f)
      (λ b. pair_differs q.action q.object p.action p.object b (sym e) (sym f))

  -- at most one rule of each kind for each role
  pub one_rule :
      (r t : Rule) → Mem r v.rules → Mem t v.rules → r.kind ≡ t.kind → r.role ≡ t.role → r ≡ t
  one_rule r t m n e f =
      one_of
      (λ r t. rule_below r t ≡ true)
      v.rules
      (records→range v fit).rules.rise
      m
      n
      (λ b. pair_differs r.kind r.role t.kind t.role b e f)
      (λ b. pair_differs t.kind t.role r.kind r.role b (sym e) (sym f))

-- ---- the first is the one

-- Something said of the first member with both numbers, and not where there is none, is said of a member with
-- these numbers, if at most one has them.
module _ {A : Type 0} (fst snd : A → ℕ) (a b : ℕ) (l : List A) (says : Option A → Bool) where
  abbrev pub has_both : A → Bool
  has_both x = eqb (fst x) a && eqb (snd x) b

  abbrev pub Said : Type 0
  Said = (x : A) × Mem x l × (fst x ≡ a) × (snd x ≡ b) × (says (Some x) ≡ true)

  pub find_says :
      ((x y : A) → Mem x l → Mem y l → fst x ≡ fst y → snd x ≡ snd y → x ≡ y) → says None ≡ false
      → says (find has_both l) ≡ true ↔ Said
  find_says unique nothing = (
    λ e. ⊎_elim (λ r. clash (rw r.finds at e) nothing) (said e) (find_case has_both l),
    λ w. ⊎_elim (λ r. clash (has w) (any_false has_both r.missed w.1)) (same w) (find_case has_both l),
  )
    where
      numbers : (x : A) → has_both x ≡ true → (fst x ≡ a) × (snd x ≡ b)
      numbers x e =
          let r = and_true (eqb (fst x) a) (eqb (snd x) b) e in
          (eqb-true (fst x) a r.0, eqb-true (snd x) b r.1)

      has : (w : Said) → has_both w.0 ≡ true
      has (x, m, e, f, t) = rw (eq-eqb (fst x) a e, eq-eqb (snd x) b f)

      found : (r : Finds has_both l) → Mem r.x l
      found r = rw r.is (mid r.earlier r.later)

      said : says (find has_both l) ≡ true → Finds has_both l → Said
      said e r =
          let n = numbers r.x r.passes in (r.x, found r, n.0, n.1, rw r.finds at e)

      same : Said → Finds has_both l → says (find has_both l) ≡ true
      same (x, m, e, f, t) r =
          let n = numbers r.x r.passes in
          let one : x ≡ r.x = unique x r.x m (found r) (e ∙ sym n.0) (f ∙ sym n.1) in
          rw (r.finds, ← one) t
