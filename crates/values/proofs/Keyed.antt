-- The keys of permissions and duties: action and object of a permission as one number, from those of action 2
-- to those of the last action; the serial of a duty, above 0 and below the next one.
use mathlib.Core.Path.{◌≡◌, refl}
use mathlib.Core.Bool.{true, ◌&&◌}
use mathlib.Core.List.{List}
use Prim.Native.Nat.{ℕ, ◌<◌}
use native.Mathlib.Omega.{arith}
use lib.Dec.{ltb, leb}
use borrow.Author.Tests.{ltb-true, leb-true, lt-ltb, le-leb}
use Rattle.orders.proofs.Tests.{same_test, and_left, and_right, and_true, and_both}
use Rattle.board.specs.declared.Counts.{Counts}
use Rattle.board.specs.declared.Duty.{Duty}
use Rattle.board.specs.declared.Permission.{Permission}
use Rattle.board.specs.Good.{permission_fits, permission_below, duty_fits, part_fits}
use Rattle.board.specs.Limits.{actions, objects}
use Rattle.board.specs.Windows.{window_fits}
use Rattle.records.proofs.Pairs.{joined_below}
use Rattle.values.specs.Places.{climbs, permission_tests, permission_key, beside_action, permission_climbs}
use Rattle.values.specs.Places.{duty_tests, beside_serial, duty_climbs}
use Rattle.values.proofs.Climbing.{by_keys}

-- just below the least key of a permission, join 2 0, and just above the greatest: join actions 0
abbrev below_all : ℕ
below_all = 131071

abbrev above_all : ℕ
above_all = 4194304

module _ (roles : ℕ) where
  permission_fit :
      (p : Permission)
      → permission_fits roles p
      ≡ beside_action roles p && (ltb below_all (permission_key p) && ltb (permission_key p) above_all)
  permission_fit p =
      same_test _ _
      (λ e.
      let r = and_true (ltb p.role roles) _ e in
      let s = and_true (leb 2 p.action) _ r.1 in
      let u = and_true (ltb p.action actions) (ltb p.object objects) s.1 in
      let least = leb-true 2 p.action s.0 in
      let most = ltb-true p.action actions u.0 in
      let h = ltb-true p.object objects u.1 in
      and_both (beside_action roles p) _ (and_both (ltb p.role roles) _ r.0 u.1)
      (and_both (ltb below_all (permission_key p)) _
      (lt-ltb below_all (permission_key p) (omega arith))
      (lt-ltb (permission_key p) above_all (omega arith))))
      (λ e.
      let r = and_true (beside_action roles p) _ e in
      let s = and_true (ltb p.role roles) (ltb p.object objects) r.0 in
      let u = and_true (ltb below_all (permission_key p)) (ltb (permission_key p) above_all) r.1 in
      let h = ltb-true p.object objects s.1 in
      let least = ltb-true below_all (permission_key p) u.0 in
      let most = ltb-true (permission_key p) above_all u.1 in
      and_both (ltb p.role roles) _ s.0
      (and_both (leb 2 p.action) _ (le-leb 2 p.action (omega arith))
      (and_both (ltb p.action actions) _ (lt-ltb p.action actions (omega arith)) s.1)))

  permission_order :
      (p q : Permission) → beside_action roles p ≡ true → beside_action roles q ≡ true
      → permission_below p q ≡ ltb (permission_key p) (permission_key q)
  permission_order p q e f =
      let h = ltb-true p.object objects (and_right (ltb p.role roles) _ e) in
      let k = ltb-true q.object objects (and_right (ltb q.role roles) _ f) in
      joined_below p.action p.object q.action q.object (omega arith) (omega arith)

  pub permissions_by_keys :
      (l : List Permission)
      → climbs (permission_climbs roles) permission_key above_all below_all l
      ≡ part_fits (permission_fits roles) permission_below l
  permissions_by_keys =
      by_keys
      {t = permission_tests roles}
      (record {
        own = beside_action roles;
        key = permission_key;
        below_all = below_all;
        above_all = above_all;
        room = omega arith;
        fit = permission_fit;
        order = permission_order;
      })

module _ (n : Counts) (next : ℕ) where
  duty_fit :
      (d : Duty)
      → duty_fits n.users n.roles next d && window_fits d
      ≡ beside_serial n.users n.roles d && (ltb 0 d.serial.0 && ltb d.serial.0 next)
  duty_fit d =
      same_test _ _
      (λ e. search (and_left, and_right, and_both) depth 12)
      (λ e. search (and_left, and_right, and_both) depth 12)

  pub duties_by_keys :
      0 < next → (l : List Duty)
      → climbs (duty_climbs n.users n.roles) (λ d. d.serial.0) next 0 l
      ≡ part_fits (duty_tests n next).fits (duty_tests n next).below l
  duties_by_keys h =
      by_keys
      {t = duty_tests n next}
      (record {
        own = beside_serial n.users n.roles;
        key = λ d. d.serial.0;
        below_all = 0;
        above_all = next;
        room = h;
        fit = duty_fit;
        order = λ x y e f. refl;
      })
