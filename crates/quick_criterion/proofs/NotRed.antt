-- Where no duty of the pool is in trouble, that is, each can be met and none has a need made wrong, the
-- criterion does not say red. The roles asked of the doers and the roles set are to be below the limit, as
-- they are on a good board.
use mathlib.Core.Path.{◌≡◌, sym, ◌∙◌}
use mathlib.Core.Bool.{Bool, true, false, not, ◌&&◌, ◌||◌}
use mathlib.Core.List.{List}
use Prim.Native.Nat.{ℕ, ◌≤◌}
use native.Mathlib.Omega.{arith}
use lib.Dec.{ltb}
use borrow.Author.Tests.{ltb-true, lt-ltb}
use Rattle.orders.specs.Criterion.{stays_wrong, made_wrong, red_at, is_red}
use Rattle.orders.specs.Lists.{Mem, any, all}
use Rattle.orders.specs.Needs.{ruled, needed}
use Rattle.orders.proofs.Tests.{and_true, and_both, not_true, not_false, or_false, or_neither}
use Rattle.orders.proofs.Lists.{any_false, none_any}
use Rattle.board.specs.declared.Board.{Board}
use Rattle.board.specs.declared.Duty.{Duty}
use Rattle.board.specs.declared.What.{What}
use Rattle.board.specs.declared.What.TheVariants.{Grant, Revoke, Use}
use Rattle.board.specs.Good.{good, permission_fits, rule_fits, what_fits, holdings_fit, permissions_fit, rules_fit}
use Rattle.board.specs.Green.{duties_of}
use Rattle.board.specs.Limits.{max_users, max_roles}
use Rattle.board.specs.Permitted.{Holding, held_in, asked_for}
use Rattle.board.specs.View.{View, view}
use Rattle.board.proofs.GoodLaws.{good→counts, good→records, records→range}
use Rattle.asks.specs.Asks.{ask_of}
use Rattle.quick_criterion.specs.Tests.{can_be_met, makes_wrong, in_trouble}
use Rattle.quick_criterion.proofs.Alone.{alone_at, DoerRoleFits, asked_fits, can_be_met_alone}
use Rattle.quick_criterion.proofs.Spoiled.{none_made_wrong}

-- ---- within the limits

-- of each duty of the pool: the role asked of the doer, and the user and role that it sets
pub record WithinLimits (v : View) (pool : List Duty) : Type 0 where
  pub asked : (d : Duty) → Mem d pool → DoerRoleFits (asked_for v.permissions v.rules d.what)
  pub set : (d : Duty) → Mem d pool → what_fits max_users max_roles d.what ≡ true

-- on a good board a role below the limit is asked of every doer
pub good_asks :
    (b : Board) → good b ≡ true → (d : Duty)
    → DoerRoleFits (asked_for (view b).permissions (view b).rules d.what)
good_asks b e d =
    let v = view b in
    let r = (and_true (holdings_fit v) _ (good→records b e)).1 in
    let p = and_true (permissions_fit v) _ r in
    let q = (and_true (rules_fit v) _ p.1).0 in
    asked_fits
    v.permissions
    v.rules
    v.roles
    (good→counts b e).roles
    (and_true (all (permission_fits v.roles) v.permissions) _ p.0).0
    (and_true (all (rule_fits v.roles) v.rules) _ q).0
    d.what

both_wider :
    (a b m n k l : ℕ) → m ≤ k → n ≤ l → ltb a m && ltb b n ≡ true → ltb a k && ltb b l ≡ true
both_wider a b m n k l h i e =
    let r = and_true (ltb a m) (ltb b n) e in
    and_both (ltb a k) (ltb b l)
    (lt-ltb a k (omega (arith, ltb-true a m r.0)))
    (lt-ltb b l (omega (arith, ltb-true b n r.1)))

fits_wider :
    (users roles : ℕ) (what : What) → users ≤ max_users → roles ≤ max_roles → what_fits users roles what ≡ true
    → what_fits max_users max_roles what ≡ true
fits_wider users roles (Grant target role) h k e = both_wider target role users roles max_users max_roles h k e
fits_wider users roles (Revoke target role) h k e = both_wider target role users roles max_users max_roles h k e
fits_wider users roles (Use action object) h k e = e

-- the open duties of a good board
pub good_limits : (b : Board) → good b ≡ true → WithinLimits (view b) (view b).duties
good_limits b e =
    let c = good→counts b e in
    let range = records→range (view b) (good→records b e) in
    record {
      asked = λ d m. good_asks b e d;
      set = λ d m.
          fits_wider (view b).users (view b).roles d.what c.users c.roles
          (range.duties.each d m).what;
    }

-- ---- no duty in trouble

module _ (sets : List ℕ) (v : View) (pool : List Duty) (limits : WithinLimits v pool) where
  abbrev stays : Duty → Holding × Bool → Bool
  stays d n = stays_wrong (duties_of v) (held_in sets) pool d n.0 n.1

  abbrev made : Duty → Holding × Bool → Bool
  made d n = made_wrong (duties_of v) pool d n.0 n.1

  not_red_at :
      (d : Duty) → Mem d pool → in_trouble sets pool d (ask_of v d) ≡ false
      → red_at (duties_of v) (held_in sets) pool d ≡ false
  not_red_at d i e =
      let asks = (duties_of v).asks d in
      let t = or_false (not (can_be_met sets pool d (ask_of v d))) _ e in
      let a = or_false (not (ruled asks)) (any (stays d) (needed asks)) (alone t.0) in
      or_neither
      (not (ruled asks))
      (any (λ n. stays d n || made d n) (needed asks))
      a.0
      (none_any
      (λ n. stays d n || made d n)
      (needed asks)
      (λ n m. or_neither (stays d n) (made d n) (any_false (stays d) a.1 m) (unmade t.1 n m)))
    where
      alone :
          not (can_be_met sets pool d (ask_of v d)) ≡ false → alone_at (duties_of v) (held_in sets) pool d ≡ false
      alone f =
          not_true
          (alone_at (duties_of v) (held_in sets) pool d)
          (sym (can_be_met_alone v.permissions v.rules sets pool d (limits.asked d i))
          ∙ not_false (can_be_met sets pool d (ask_of v d)) f)

      unmade :
          any (makes_wrong pool d (ask_of v d)) pool ≡ false → (n : Holding × Bool)
          → Mem n (needed ((duties_of v).asks d)) → made d n ≡ false
      unmade f =
          none_made_wrong
          v.permissions
          v.rules
          pool
          d
          limits.set
          (λ x k. any_false (makes_wrong pool d (ask_of v d)) f k)

  -- where no duty is in trouble, the pool is not red
  pub not_red :
      ((d : Duty) → Mem d pool → in_trouble sets pool d (ask_of v d) ≡ false)
      → is_red (duties_of v) (held_in sets) pool ≡ false
  not_red f =
      none_any (red_at (duties_of v) (held_in sets) pool) pool (λ d m. not_red_at d m (f d m))
