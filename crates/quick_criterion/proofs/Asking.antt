-- What is asked, in one form, holding by holding: each need is asked, and what is asked of a holding is a
-- need, where its role is below the limit. The doer's role is one holding, each role of the wanted and the
-- barred set is another; the empty sets of a permission ask for nothing.
use mathlib.Core.Path.{◌≡◌, refl}
use mathlib.Core.Logic.{⊎_elim}
use mathlib.Core.Bool.{Bool, true, false, ◌&&◌, cond}
use mathlib.Core.List.Memᴰ
use mathlib.Core.List.{
  [],
}
use Rattle.std.specs.Prelude.{Option}
use Prim.Native.Nat.{ℕ, ◌<◌}
use lib.Dec.{eqb}
use borrow.Author.Tests.{eqb-true, eq-eqb}
use Rattle.orders.specs.Lists.{Mem, here, there}
use Rattle.orders.specs.Needs.{needed}
use Rattle.orders.proofs.Tests.{clash, or_true, or_right, and_true, and_both}
use Rattle.orders.proofs.Lists.{at_cons}
use Rattle.roles.specs.Roles.{in_set}
use Rattle.board.specs.declared.Asked.{Asked}
use Rattle.board.specs.declared.Asked.TheVariants.{Unruled, Role, Meets}
use Rattle.board.specs.Limits.{max_roles}
use Rattle.board.specs.Permitted.{Holding, roles_in, each, needs}
use Rattle.board.proofs.RolesIn.{roles_mem, no_roles}
use Rattle.asks.specs.declared.Ask.{Ask}
use Rattle.asks.specs.Asks.{in_one_form, asked_that}
use Rattle.quick_criterion.specs.Tests.{needs_held, needs_free}

-- it is asked that this holding is held, or that it is not
abbrev pub asks_for : ℕ → Option Ask → Holding × Bool → Bool
asks_for doer asked n =
    let (user, role) = n.0 in
    asked_that (λ ask. cond n.1 (needs_held doer ask user role) (needs_free ask user role)) asked

same_need :
    (user doer q role : ℕ) → eqb user doer && eqb q role ≡ true
    → ◌≡◌ {A = Holding × Bool} ((user, role), true) ((doer, q), true)
same_need user doer q role e =
    let r = and_true (eqb user doer) (eqb q role) e in rw (eqb-true user doer r.0, eqb-true q role r.1)

-- a role of a set, asked of a user
each_in :
    (held : Bool) (target set user role : ℕ) → role < max_roles → eqb user target && in_set set role ≡ true
    → Mem ((user, role), held) (each held target (roles_in set))
each_in held target set user role h e =
    let r = and_true (eqb user target) (in_set set role) e in
    rw
    (eqb-true user target r.0)
    (Memᴰ.map (λ q. ((target, q), held)) ((roles_mem set role).1 (h, r.1)))

-- the empty set asks for nothing
nothing_asked :
    {A : Type 0} (held : Bool) (target user role : ℕ) → role < max_roles
    → eqb user target && in_set 0 role ≡ true → A
nothing_asked {A} held target user role h e = none (rw no_roles at (each_in held target 0 user role h e))
  where
    none : {n : Holding × Bool} → Mem n [] → A
    none m = elim m [ ]

-- what is asked of a holding is a need, where its role is below the limit
pub asks_needs :
    (doer : ℕ) (asked : Asked) (user role : ℕ) (held : Bool) → role < max_roles
    → asks_for doer (in_one_form doer asked) ((user, role), held) ≡ true
    → Mem ((user, role), held) (needed (needs doer asked))
asks_needs doer Unruled user role held h e = clash e refl
asks_needs doer (Role q) user role true h e =
    ⊎_elim
    (λ f. here (same_need user doer q role f))
    (nothing_asked true doer user role h)
    (or_true (eqb user doer && eqb q role) (eqb user doer && in_set 0 role) e)
asks_needs doer (Role q) user role false h e = nothing_asked false doer user role h e
asks_needs doer (Meets target rule) user role true h e =
    ⊎_elim
    (λ f. here (same_need user doer rule.actor role f))
    (λ f.
    there
    (Memᴰ.append_left
    (each false target (roles_in rule.barred))
    (each_in true target rule.wanted user role h f)))
    (or_true (eqb user doer && eqb rule.actor role) (eqb user target && in_set rule.wanted role) e)
asks_needs doer (Meets target rule) user role false h e =
    there
    (Memᴰ.append_right
    (each true target (roles_in rule.wanted))
    (each_in false target rule.barred user role h e))

-- a need made of a set's roles
each_of :
    (held : Bool) (target set : ℕ) (n : Holding × Bool) → Mem n (each held target (roles_in set))
    → (n.1 ≡ held) × (eqb n.0.0 target && in_set set n.0.1 ≡ true)
each_of held target set n m =
    let (q, i, e) = Memᴰ.of_map (λ q. ((target, q), held)) (roles_in set) m in
    rw
    (← e)
    (refl, and_both (eqb target target) (in_set set q) (eq-eqb target target refl) ((roles_mem set q).0 i).1)

-- and each need is asked
pub needs_asks :
    (doer : ℕ) (asked : Asked) (n : Holding × Bool) → Mem n (needed (needs doer asked))
    → asks_for doer (in_one_form doer asked) n ≡ true
needs_asks doer Unruled n m = elim m [ ]
needs_asks doer (Role q) n m = rw (Memᴰ.eq_of_singleton m, eq-eqb doer doer refl, eq-eqb q q refl)
needs_asks doer (Meets target rule) n m =
    let wanted = each true target (roles_in rule.wanted) in
    at_cons
    (λ e. rw (e, eq-eqb doer doer refl, eq-eqb rule.actor rule.actor refl))
    (λ k.
    ⊎_elim
    (λ l.
    let r = each_of true target rule.wanted n l in
    rw
    r.0
    (or_right
    (eqb n.0.0 doer && eqb rule.actor n.0.1)
    (eqb n.0.0 target && in_set rule.wanted n.0.1)
    r.1))
    (λ l. let r = each_of false target rule.barred n l in rw r.0 r.1)
    (Memᴰ.append_cases wanted k))
    m
