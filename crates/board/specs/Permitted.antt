-- When something to be done is permitted, and what it changes: document 01, section Permitted. That
-- they say document 01's sentences (specs/Sentences.antt) is proved in proofs/Sentences.antt.
use Rattle.std.specs.Prelude.{Bool, true, false, ◌&&◌, List, [], ◌∷◌, ◌++◌, map, ℕ, zero, suc, eqb, get_or}
use Rattle.std.specs.Prelude.{set}
use Rattle.std.specs.Prelude.{Option, None, Some}
use Rattle.orders.specs.Lists.{keep, find}
use Rattle.roles.specs.Roles.{in_set, with_role, without_role}
use Rattle.board.specs.declared.Asked.{Asked}
use Rattle.board.specs.declared.Asked.TheVariants.{Unruled, Role, Meets}
use Rattle.board.specs.declared.Permission.{Permission}
use Rattle.board.specs.declared.Rule.{Rule}
use Rattle.board.specs.declared.What.{What}
use Rattle.board.specs.declared.What.TheVariants.{Grant, Revoke, Use}
use Rattle.board.specs.Limits.{max_roles}

-- ---- holdings

-- a user and a role
abbrev pub Holding : Type 0
Holding = ℕ × ℕ

abbrev pub same_holding : Holding → Holding → Bool
same_holding h k = eqb h.0 k.0 && eqb h.1 k.1

-- who holds what, by the set of each user; nobody past the end of the list holds a role
abbrev pub held_in : List ℕ → Holding → Bool
held_in sets h = in_set (get_or sets h.0 0) h.1

-- the numbers below n, rising
abbrev pub below : ℕ → List ℕ
below zero = []
below (suc n) = below n ++ (n ∷ [])

-- the roles of a set, lowest first
unfoldable pub roles_in : ℕ → List ℕ
roles_in set = keep (in_set set) (below max_roles)

-- ---- what is asked

-- the permission is for this action and object
abbrev pub is_for : ℕ → ℕ → Permission → Bool
is_for action object p = eqb p.action action && eqb p.object object

-- the rule is of this kind and for this role
abbrev pub governs : ℕ → ℕ → Rule → Bool
governs kind role r = eqb r.kind kind && eqb r.role role

abbrev pub by_permission : Option Permission → Asked
by_permission None = Unruled
by_permission (Some p) = Role p.role

abbrev pub by_rule : ℕ → Option Rule → Asked
by_rule target None = Unruled
by_rule target (Some r) = Meets target r

-- what the permissions and rules ask for this to be done: kind 0 is assign, kind 1 is revoke
abbrev pub asked_for : List Permission → List Rule → What → Asked
asked_for permissions rules (Grant target role) = by_rule target (find (governs 0 role) rules)
asked_for permissions rules (Revoke target role) = by_rule target (find (governs 1 role) rules)
asked_for permissions rules (Use action object) = by_permission (find (is_for action object) permissions)

-- each of these roles is to be held (or not) by the user
abbrev pub each : Bool → ℕ → List ℕ → List (Holding × Bool)
each held user roles = map (λ role. ((user, role), held)) roles

-- The needs: a holding, and whether it is to be held. The doer holds the permission's role; or the doer holds
-- the rule's actor role, and the target holds every wanted role and no barred role.
abbrev pub needs : ℕ → Asked → Option (List (Holding × Bool))
needs doer Unruled = None
needs doer (Role role) = Some (((doer, role), true) ∷ [])
needs doer (Meets target rule) =
    Some
    (((doer, rule.actor), true)
    ∷ (each true target (roles_in rule.wanted) ++ each false target (roles_in rule.barred)))

-- ---- what is changed

-- the holding that is set, and to what; a use changes no holding
abbrev pub effect_of : What → Option (Holding × Bool)
effect_of (Grant target role) = Some ((target, role), true)
effect_of (Revoke target role) = Some ((target, role), false)
effect_of (Use action object) = None

-- the sets of roles once this was done; a target past the end of the list changes nothing
abbrev pub changed : List ℕ → What → List ℕ
changed sets (Grant target role) = set sets target (with_role (get_or sets target 0) role)
changed sets (Revoke target role) = set sets target (without_role (get_or sets target 0) role)
changed sets (Use action object) = sets
