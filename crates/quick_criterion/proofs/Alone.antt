-- `can_be_met` is part (a) of the criterion: false just where d has no permission or rule, or some holding that
-- d needs is wrong now and no duty wholly before d sets it right. What is asked is taken apart need by need,
-- each read in the most or the least that its user can hold. The role asked of the doer is to be below the
-- limit, as it is on a good board (asked-fits). A permission asks for no role but the doer's: the sets of its
-- one form are empty, and any set meets them.
use mathlib.Core.Path.{◌≡◌, refl, sym, ap, ap₂, ◌∙◌}
use mathlib.Core.Bool.{Bool, true, false, not, ◌&&◌, ◌||◌, beq}
use Rattle.std.specs.Prelude.{Option, None, Some}
use mathlib.Core.List.{List, [], ◌∷◌, ◌++◌}
use Prim.Native.Nat.{ℕ, ◌≤◌, ◌<◌}
use native.Mathlib.Omega.{arith}
use lib.Dec.{ltb}
use lib.ListN.{get_or}
use borrow.Author.Tests.{ltb-true}
use Rattle.orders.specs.Criterion.{stays_wrong}
use Rattle.orders.specs.Lists.{Mem, here, there, any, all, find}
use Rattle.orders.specs.Needs.{Duties, Holdings, ruled, needed}
use Rattle.orders.proofs.Tests.{by_test, and_true, and_yes}
use Rattle.roles.specs.Roles.{in_set}
use Rattle.permitted.specs.Meets.{meets_sets}
use Rattle.board.specs.declared.Asked.{Asked}
use Rattle.board.specs.declared.Asked.TheVariants.{Unruled, Role, Meets}
use Rattle.board.specs.declared.Duty.{Duty}
use Rattle.board.specs.declared.Permission.{Permission}
use Rattle.board.specs.declared.Rule.{Rule}
use Rattle.board.specs.declared.What.{What}
use Rattle.board.specs.declared.What.TheVariants.{Grant, Revoke, Use}
use Rattle.board.specs.Good.{permission_fits, rule_fits}
use Rattle.board.specs.Green.{duties_under}
use Rattle.board.specs.Limits.{max_roles}
use Rattle.board.specs.Permitted.{
  Holding,
  held_in,
  roles_in,
  each,
  needs,
  asked_for,
  is_for,
  governs,
  by_permission,
  by_rule,
}
use Rattle.board.proofs.RolesIn.{roles_mem, no_roles}
use Rattle.asks.specs.Asks.{in_one_form}
use Rattle.quick_criterion.specs.Tests.{most, least, can_be_met}
use Rattle.quick_criterion.proofs.MostAndLeast.{wrong_most, wrong_least}

-- ---- tests over lists of needs

not_or : (a b : Bool) → not (a || b) ≡ not a && not b
not_or true b = refl
not_or false b = refl

or_nothing : (a : Bool) → a || false ≡ a
or_nothing true = refl
or_nothing false = refl

and_assoc : (a b c : Bool) → (a && b) && c ≡ a && (b && c)
and_assoc true b c = refl
and_assoc false b c = refl

beq_yes : (a : Bool) → not (beq a false) ≡ a
beq_yes true = refl
beq_yes false = refl

beq_no : (a : Bool) → beq a true ≡ a
beq_no true = refl
beq_no false = refl

none_append :
    {A : Type 0} (p : A → Bool) (k l : List A) → not (any p (k ++ l)) ≡ not (any p k) && not (any p l)
none_append p [] l = refl
none_append p (x ∷ k) l =
    not_or (p x) (any p (k ++ l))
    ∙ ap (λ (b : Bool). not (p x) && b) (none_append p k l)
    ∙ sym (and_assoc (not (p x)) (not (any p k)) (not (any p l)))
    ∙ ap (λ (b : Bool). b && not (any p l)) (sym (not_or (p x) (any p k)))

-- no need of a kind is wrong just where every role passes the test
none_each :
    (wrong : Holding × Bool → Bool) (right : ℕ → Bool) (held : Bool) (user : ℕ) (roles : List ℕ)
    → ((q : ℕ) → Mem q roles → not (wrong ((user, q), held)) ≡ right q)
    → not (any wrong (each held user roles)) ≡ all right roles
none_each wrong right held user [] f = refl
none_each wrong right held user (q ∷ roles) f =
    not_or (wrong ((user, q), held)) (any wrong (each held user roles))
    ∙ ap₂
    (λ (a b : Bool). a && b)
    (f q (here refl))
    (none_each wrong right held user roles (λ r m. f r (there m)))

only_wanted : (set wanted : ℕ) → meets_sets set wanted 0 ≡ all (in_set set) (roles_in wanted)
only_wanted set wanted = rw no_roles (and_yes (all (in_set set) (roles_in wanted)))

only_barred : (set barred : ℕ) → meets_sets set 0 barred ≡ all (λ role. not (in_set set role)) (roles_in barred)
only_barred set barred = rw no_roles

-- ---- what the law speaks of

-- d has no permission or rule, or some holding that it needs stays wrong: part (a) of `red_at`
abbrev pub alone_at : (D : Duties) → Holdings D → List D.Duty → D.Duty → Bool
alone_at D s pool d =
    not (ruled (D.asks d)) || any (λ n. stays_wrong D s pool d n.0 n.1) (needed (D.asks d))

-- the role asked of the doer is below the limit
abbrev pub DoerRoleFits : Asked → Type 0
DoerRoleFits Unruled = Unit {0}
DoerRoleFits (Role role) = role < max_roles
DoerRoleFits (Meets target rule) = rule.actor < max_roles

-- what is found fits, where every member does
found_fits :
    {A : Type 0} (p fits : A → Bool) (l : List A) (P : Option A → Type 0) → all fits l ≡ true → P None
    → ((x : A) → fits x ≡ true → P (Some x)) → P (find p l)
found_fits p fits [] P e n s = n
found_fits p fits (x ∷ l) P e n s =
    let r = and_true (fits x) (all fits l) e in
    by_test (p x) (λ t. rw t (s x r.0)) (λ f. rw f (found_fits p fits l P r.1 n s))

module _ (permissions : List Permission) (rules : List Rule) where
  -- ---- on a good board

  module _
      (roles : ℕ)
      (few : roles ≤ max_roles)
      (fit_permissions : all (permission_fits roles) permissions ≡ true)
      (fit_rules : all (rule_fits roles) rules ≡ true) where
    actor_fits : (target kind role : ℕ) → DoerRoleFits (by_rule target (find (governs kind role) rules))
    actor_fits target kind role =
        found_fits
        (governs kind role)
        (rule_fits roles)
        rules
        (λ o. DoerRoleFits (by_rule target o))
        fit_rules
        tt
        (λ r e.
        let after_kind = (and_true (ltb r.kind 2) _ e).1 in
        let h = ltb-true r.actor roles (and_true (ltb r.actor roles) _ after_kind).0 in
        omega arith)

    pub asked_fits : (what : What) → DoerRoleFits (asked_for permissions rules what)
    asked_fits (Grant target role) = actor_fits target 0 role
    asked_fits (Revoke target role) = actor_fits target 1 role
    asked_fits (Use action object) =
        found_fits
        (is_for action object)
        (permission_fits roles)
        permissions
        (λ o. DoerRoleFits (by_permission o))
        fit_permissions
        tt
        (λ p e. let h = ltb-true p.role roles (and_true (ltb p.role roles) _ e).0 in omega arith)

  module _ (sets : List ℕ) (pool : List Duty) (d : Duty) where
    -- the need stays wrong up to d
    abbrev stays : Holding × Bool → Bool
    stays n = stays_wrong (duties_under permissions rules) (held_in sets) pool d n.0 n.1

    -- ---- one need

    abbrev most_of : ℕ → ℕ
    most_of user = most d user (get_or sets user 0) pool

    abbrev least_of : ℕ → ℕ
    least_of user = least d user (get_or sets user 0) pool

    held_right : (user q : ℕ) → q < max_roles → not (stays ((user, q), true)) ≡ in_set (most_of user) q
    held_right user q h =
        ap not (sym (wrong_most permissions rules user q h d (get_or sets user 0) pool))
        ∙ beq_yes (in_set (most_of user) q)

    free_right : (user q : ℕ) → q < max_roles → not (stays ((user, q), false)) ≡ not (in_set (least_of user) q)
    free_right user q h =
        ap
        not
        (sym (wrong_least permissions rules user q h d (get_or sets user 0) pool)
        ∙ beq_no (in_set (least_of user) q))

    -- ---- all that is asked

    wanted_right :
        (user wanted : ℕ)
        → not (any stays (each true user (roles_in wanted))) ≡ meets_sets (most_of user) wanted 0
    wanted_right user wanted =
        none_each
        stays
        (in_set (most_of user))
        true
        user
        (roles_in wanted)
        (λ q m. held_right user q ((roles_mem wanted q).0 m).0)
        ∙ sym (only_wanted (most_of user) wanted)

    barred_right :
        (user barred : ℕ)
        → not (any stays (each false user (roles_in barred))) ≡ meets_sets (least_of user) 0 barred
    barred_right user barred =
        none_each
        stays
        (λ role. not (in_set (least_of user) role))
        false
        user
        (roles_in barred)
        (λ q m. free_right user q ((roles_mem barred q).0 m).0)
        ∙ sym (only_barred (least_of user) barred)

    all_right :
        (asked : Asked) → DoerRoleFits asked
        → can_be_met sets pool d (in_one_form d.doer asked)
        ≡ not (not (ruled (needs d.doer asked)) || any stays (needed (needs d.doer asked)))
    all_right Unruled h = refl
    all_right (Role role) h =
        let held = stays ((d.doer, role), true) in
        rw
        no_roles
        (and_yes (in_set (most_of d.doer) role)
        ∙ sym (ap not (or_nothing held) ∙ held_right d.doer role h))
    all_right (Meets target rule) h =
        let wanted = each true target (roles_in rule.wanted) in
        let barred = each false target (roles_in rule.barred) in
        sym
        (not_or (stays ((d.doer, rule.actor), true)) (any stays (wanted ++ barred))
        ∙ ap₂
        (λ (a b : Bool). a && b)
        (held_right d.doer rule.actor h)
        (none_append stays wanted barred
        ∙ ap₂
        (λ (a b : Bool). a && b)
        (wanted_right target rule.wanted)
        (barred_right target rule.barred)))

    -- d can be met just where part (a) of the criterion does not make it red
    pub can_be_met_alone :
        let asked = asked_for permissions rules d.what in
        DoerRoleFits asked
        → can_be_met sets pool d (in_one_form d.doer asked)
        ≡ not (alone_at (duties_under permissions rules) (held_in sets) pool d)
    can_be_met_alone = all_right (asked_for permissions rules d.what)
