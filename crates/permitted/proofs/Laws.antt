-- Laws of one act, for the crates above: it changes just the holding that the theory of orders says; the
-- table stays as long as it was and every set within the roles; what stands beyond the users says nothing.
use mathlib.Core.Path.{◌≡◌, refl, sym, ap, fun_ext}
use mathlib.Core.Bool.{Bool, true, false, ◌&&◌, cond}
use mathlib.Core.List.{List, [], ◌∷◌}
use Prim.Native.Nat.{ℕ, zero, suc, ◌≤◌, ◌<◌, ◌^◌}
use native.Mathlib.Omega.{arith}
use lib.Dec.{eqb, ltb}
use lib.ListN.{length, get_or, set, take, drop, length-set}
use lib.Pow.{pow_pos}
use lib.Seq.{get_or-set_same, get_or-set_other, take-set-lt, drop-set-lt, get_or-take}
use borrow.Author.Tests.{eqb-true, eqb-false, ltb-true, lt-ltb}
use Rattle.orders.specs.Lists.{all}
use Rattle.orders.specs.Needs.{met, change}
use Rattle.orders.proofs.Tests.{by_test, and_true, and_both}
use Rattle.roles.specs.Roles.{width, in_set, with_role, without_role}
use Rattle.roles.proofs.Laws.{with_same, with_other, without_same, without_other, with_below, without_below}
use Rattle.board.specs.declared.Board.{Board}
use Rattle.board.specs.declared.Permission.{Permission}
use Rattle.board.specs.declared.Rule.{Rule}
use Rattle.board.specs.declared.What.{What}
use Rattle.board.specs.declared.What.TheVariants.{Grant, Revoke, Use}
use Rattle.board.specs.Limits.{max_roles}
use Rattle.board.specs.Good.{set_fits, what_fits}
use Rattle.board.specs.Green.{duties_under, permitted_now}
use Rattle.board.specs.Permitted.{Holding, held_in, asked_for, needs, changed, effect_of}
use Rattle.board.specs.View.{view}

-- a target and a role in range
in_range :
    (target role users roles : ℕ) → ltb target users && ltb role roles ≡ true
    → (target < users) × (role < roles)
in_range target role users roles e =
    let r = and_true (ltb target users) (ltb role roles) e in
    (ltb-true target users r.0, ltb-true role roles r.1)

-- ---- what is changed

-- Another set for the target, that differs in one role: just that holding is another.
module _ (sets : List ℕ) (target role new : ℕ) (held : Bool) (h : target < length sets) where
  put_held :
      in_set new role ≡ held → ((q : ℕ) → (q ≡ role → ⊥) → in_set new q ≡ in_set (get_or sets target 0) q)
      → (user q : ℕ)
      → in_set (get_or (set sets target new) user 0) q
      ≡ cond (eqb target user && eqb role q) held (in_set (get_or sets user 0) q)
  put_held same other user q =
      by_test
      (eqb target user)
      (λ e. rw (e, ← eqb-true target user e, get_or-set_same sets target new 0 h) this)
      (λ f. rw (f, get_or-set_other sets target user new 0 (λ e. eqb-false target user f (sym e))))
    where
      this : in_set new q ≡ cond (eqb role q) held (in_set (get_or sets target 0) q)
      this =
          by_test
          (eqb role q)
          (λ e. rw (e, ← eqb-true role q e) same)
          (λ f. rw f (other q (λ e. eqb-false role q f (sym e))))

module _ (permissions : List Permission) (rules : List Rule) (sets : List ℕ) (users roles : ℕ)
    (table : users ≤ length sets) (limit : roles ≤ max_roles) where
  -- What is done changes just the holding that its effect names.
  pub changed_held :
      (what : What) → what_fits users roles what ≡ true → (h : Holding)
      → held_in (changed sets what) h ≡ change (duties_under permissions rules) (held_in sets) (effect_of what) h
  changed_held (Grant target role) e h =
      let r = in_range target role users roles e in
      let t : target < length sets = omega (arith, r.0) in
      let k : role < width = omega (arith, r.1) in
      let old = get_or sets target 0 in
      put_held sets target role _ true t (with_same old role k) (with_other old role) h.0 h.1
  changed_held (Revoke target role) e h =
      let r = in_range target role users roles e in
      let t : target < length sets = omega (arith, r.0) in
      let k : role < width = omega (arith, r.1) in
      let old = get_or sets target 0 in
      put_held sets target role _ false t (without_same old role k) (without_other old role) h.0 h.1
  changed_held (Use action object) e h = refl

  pub changed_holdings :
      (what : What) → what_fits users roles what ≡ true
      → held_in (changed sets what) ≡ change (duties_under permissions rules) (held_in sets) (effect_of what)
  changed_holdings what e = fun_ext (changed_held what e)

pub changed_length : (sets : List ℕ) (what : What) → length (changed sets what) ≡ length sets
changed_length sets (Grant target role) = length-set sets target (with_role (get_or sets target 0) role)
changed_length sets (Revoke target role) = length-set sets target (without_role (get_or sets target 0) role)
changed_length sets (Use action object) = refl

-- ---- every set within the roles

module _ {A : Type 0} (p : A → Bool) where
  all_set : (l : List A) (i : ℕ) (x : A) → all p l ≡ true → p x ≡ true → all p (set l i x) ≡ true
  all_set [] i x e f = refl
  all_set (y ∷ l) zero x e f = and_both (p x) (all p l) f (and_true (p y) (all p l) e).1
  all_set (y ∷ l) (suc i) x e f =
      let r = and_true (p y) (all p l) e in and_both (p y) (all p (set l i x)) r.0 (all_set l i x r.1 f)

  all_get_d : (l : List A) (i : ℕ) (d : A) → all p l ≡ true → p d ≡ true → p (get_or l i d) ≡ true
  all_get_d [] i d e f = f
  all_get_d (y ∷ l) zero d e f = (and_true (p y) (all p l) e).0
  all_get_d (y ∷ l) (suc i) d e f = all_get_d l i d (and_true (p y) (all p l) e).1 f

module _ (sets : List ℕ) (users roles : ℕ) (fit : all (set_fits roles) sets ≡ true) where
  old_below : (target : ℕ) → get_or sets target 0 < 2 ^ roles
  old_below target =
      ltb-true _ _ (all_get_d (set_fits roles) sets target 0 fit (lt-ltb 0 (2 ^ roles) (pow_pos roles)))

  put_fits : (target new : ℕ) → new < 2 ^ roles → all (set_fits roles) (set sets target new) ≡ true
  put_fits target new h = all_set (set_fits roles) sets target new fit (lt-ltb new (2 ^ roles) h)

  pub changed_fits :
      (what : What) → what_fits users roles what ≡ true → all (set_fits roles) (changed sets what) ≡ true
  changed_fits (Grant target role) e =
      let r = in_range target role users roles e in
      put_fits target _ (with_below roles (get_or sets target 0) role (old_below target) r.1)
  changed_fits (Revoke target role) e =
      let r = in_range target role users roles e in
      put_fits target _ (without_below roles (get_or sets target 0) role (old_below target) r.1)
  changed_fits (Use action object) e = fit

-- ---- the users, and what stands beyond them

module _ (sets : List ℕ) (users roles : ℕ) where
  put_take :
      (f : ℕ → ℕ) (target : ℕ) → target < users
      → take users (set sets target (f (get_or sets target 0)))
      ≡ set (take users sets) target (f (get_or (take users sets) target 0))
  put_take f target h =
      rw (take-set-lt users sets target (f (get_or sets target 0)) h, get_or-take users sets target 0 h)

  -- An act on the table is one on the users' part of it,
  pub changed_take :
      (what : What) → what_fits users roles what ≡ true
      → take users (changed sets what) ≡ changed (take users sets) what
  changed_take (Grant target role) e =
      put_take (λ s. with_role s role) target (in_range target role users roles e).0
  changed_take (Revoke target role) e =
      put_take (λ s. without_role s role) target (in_range target role users roles e).0
  changed_take (Use action object) e = refl

  -- and leaves the filler alone.
  pub changed_drop :
      (what : What) → what_fits users roles what ≡ true → drop users (changed sets what) ≡ drop users sets
  changed_drop (Grant target role) e =
      drop-set-lt users sets target _ (in_range target role users roles e).0
  changed_drop (Revoke target role) e =
      drop-set-lt users sets target _ (in_range target role users roles e).0
  changed_drop (Use action object) e = refl

-- where only the empty set stands beyond the first n, those n say all
beyond_empty :
    (n : ℕ) (sets : List ℕ) (i : ℕ) → all (λ s. eqb s 0) (drop n sets) ≡ true
    → get_or sets i 0 ≡ get_or (take n sets) i 0
beyond_empty zero sets i e = eqb-true (get_or sets i 0) 0 (all_get_d (λ s. eqb s 0) sets i 0 e refl)
beyond_empty (suc n) [] i e = refl
beyond_empty (suc n) (s ∷ sets) zero e = refl
beyond_empty (suc n) (s ∷ sets) (suc i) e = beyond_empty n sets i e

module _ (b : Board) (filler : all (λ s. eqb s 0) (drop b.counts.users b.holdings) ≡ true) where
  pub held_view : (h : Holding) → held_in b.holdings h ≡ held_in (view b).holdings h
  held_view h =
      ap (λ (s : ℕ). in_set s h.1) (beyond_empty b.counts.users b.holdings h.0 filler)

  pub holdings_view : held_in b.holdings ≡ held_in (view b).holdings
  holdings_view = fun_ext held_view

  -- `permitted` answers what the definition says of the board
  pub permitted_now_lem :
      (doer : ℕ) (what : What)
      → met (held_in b.holdings) (needs doer (asked_for (view b).permissions (view b).rules what))
      ≡ permitted_now (view b) doer what
  permitted_now_lem doer what =
      let asked = needs doer (asked_for (view b).permissions (view b).rules what) in
      ap (λ (s : Holding → Bool). met s asked) holdings_view
