-- Holdings meet the need of a role where the doer holds it; and the needs of a rule where the doer holds the
-- actor role and the target's set has every wanted role and no barred one.
use mathlib.Core.Path.{◌≡◌, refl, ap, ap₂, ◌∙◌}
use mathlib.Core.Bool.{Bool, true, false, not, ◌&&◌, beq}
use mathlib.Core.List.{List, [], ◌∷◌, ◌++◌}
use Prim.Native.Nat.{ℕ}
use lib.ListN.{get_or}
use Rattle.orders.specs.Lists.{all}
use Rattle.orders.specs.Needs.{met}
use Rattle.board.specs.declared.Asked.TheVariants.{Role, Meets}
use Rattle.board.specs.declared.Rule.{Rule}
use Rattle.board.specs.Permitted.{Holding, held_in, roles_in, each, needs}
use Rattle.permitted.specs.Meets.{meets_sets}

and_assoc : (a b c : Bool) → a && (b && c) ≡ (a && b) && c
and_assoc true b c = refl
and_assoc false b c = refl

all_append : {A : Type 0} (p : A → Bool) (k l : List A) → all p (k ++ l) ≡ all p k && all p l
all_append p [] l = refl
all_append p (x ∷ k) l =
    ap (λ (b : Bool). p x && b) (all_append p k l) ∙ and_assoc (p x) (all p k) (all p l)

-- to be held, and not to be held
beq_yes : (b : Bool) → beq b true ≡ b
beq_yes true = refl
beq_yes false = refl

beq_no : (b : Bool) → beq b false ≡ not b
beq_no true = refl
beq_no false = refl

module _ (s : Holding → Bool) where
  abbrev is_met : Holding × Bool → Bool
  is_met n = beq (s n.0) n.1

  each_met :
      (held : Bool) (f : Bool → Bool) → ((b : Bool) → beq b held ≡ f b) → (user : ℕ) (roles : List ℕ)
      → all is_met (each held user roles) ≡ all (λ role. f (s (user, role))) roles
  each_met held f e user [] = refl
  each_met held f e user (q ∷ roles) =
      ap₂ (λ (a b : Bool). a && b) (e (s (user, q))) (each_met held f e user roles)

  pub role_met : (doer role : ℕ) → met s (needs doer (Role role)) ≡ s (doer, role)
  role_met doer role = alone (s (doer, role))
    where
      alone : (b : Bool) → beq b true && true ≡ b
      alone true = refl
      alone false = refl

pub rule_met :
    (sets : List ℕ) (doer target : ℕ) (rule : Rule)
    → met (held_in sets) (needs doer (Meets target rule))
    ≡ held_in sets (doer, rule.actor) && meets_sets (get_or sets target 0) rule.wanted rule.barred
rule_met sets doer target rule =
    let wanted = each true target (roles_in rule.wanted) in
    let barred = each false target (roles_in rule.barred) in
    ap₂
    (λ (a b : Bool). a && b)
    (beq_yes (held_in sets (doer, rule.actor)))
    (all_append (is_met (held_in sets)) wanted barred
    ∙ ap₂
    (λ (a b : Bool). a && b)
    (each_met (held_in sets) true (λ b. b) beq_yes target (roles_in rule.wanted))
    (each_met (held_in sets) false not beq_no target (roles_in rule.barred)))
