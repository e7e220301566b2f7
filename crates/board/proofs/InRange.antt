-- Counts in range and one record in range: the tests of `specs/Good.antt` taken apart into a record of named
-- facts, and put together again.
use mathlib.Core.Path.{◌≡◌}
use mathlib.Core.Bool.{true, ◌&&◌}
use Prim.Native.Nat.{ℕ, ◌≤◌, ◌<◌, ◌^◌}
use borrow.Author.Tests.{ltb-true, leb-true, lt-ltb, le-leb}
use Rattle.orders.proofs.Tests.{and_left, and_right, and_both}
use Rattle.board.specs.declared.Counts.{Counts}
use Rattle.board.specs.declared.Duty.{Duty}
use Rattle.board.specs.declared.Permission.{Permission}
use Rattle.board.specs.declared.Rule.{Rule}
use Rattle.board.specs.Limits.{
  max_users,
  max_roles,
  max_permissions,
  max_rules,
  max_duties,
  max_next,
  actions,
  objects,
}
use Rattle.board.specs.Good.{counts_fit, permission_fits, rule_fits, what_fits, duty_fits}
use Rattle.board.specs.Windows.{window_fits}

-- ---- counts

pub record CountsInRange (n : Counts) (next : ℕ) : Type 0 where
  pub one_user : 1 ≤ n.users
  pub users : n.users ≤ max_users
  pub one_role : 1 ≤ n.roles
  pub roles : n.roles ≤ max_roles
  pub permissions : n.permissions ≤ max_permissions
  pub rules : n.rules ≤ max_rules
  pub duties : n.duties ≤ max_duties
  pub serial : 1 ≤ next
  pub most : next ≤ max_next

pub counts→range : (n : Counts) (next : ℕ) → counts_fit n next ≡ true → CountsInRange n next
counts→range n next e = search (and_left, and_right, leb-true) depth 8

pub range→counts : (n : Counts) (next : ℕ) → CountsInRange n next → counts_fit n next ≡ true
range→counts n next r = search (and_both, le-leb) depth 8

-- ---- one record

pub record PermissionInRange (roles : ℕ) (p : Permission) : Type 0 where
  pub role : p.role < roles
  pub other : 2 ≤ p.action
  pub action : p.action < actions
  pub object : p.object < objects

pub record RuleInRange (roles : ℕ) (r : Rule) : Type 0 where
  pub kind : r.kind < 2
  pub actor : r.actor < roles
  pub role : r.role < roles
  pub wanted : r.wanted < 2 ^ roles
  pub barred : r.barred < 2 ^ roles

pub record DutyInRange (users roles next : ℕ) (d : Duty) : Type 0 where
  pub serial : 0 < d.serial.0
  pub given : d.serial.0 < next
  pub doer : d.doer < users
  pub what : what_fits users roles d.what ≡ true
  pub window : d.start ≤ d.end

module _ (roles : ℕ) (p : Permission) where
  pub permission→range : permission_fits roles p ≡ true → PermissionInRange roles p
  permission→range e = search (and_left, and_right, leb-true, ltb-true)

  pub range→permission : PermissionInRange roles p → permission_fits roles p ≡ true
  range→permission h = search (and_both, le-leb, lt-ltb)

module _ (roles : ℕ) (r : Rule) where
  pub rule→range : rule_fits roles r ≡ true → RuleInRange roles r
  rule→range e = search (and_left, and_right, ltb-true)

  pub range→rule : RuleInRange roles r → rule_fits roles r ≡ true
  range→rule h = search (and_both, lt-ltb)

module _ (users roles next : ℕ) (d : Duty) where
  pub duty→range : duty_fits users roles next d && window_fits d ≡ true → DutyInRange users roles next d
  duty→range e = search (and_left, and_right, ltb-true, leb-true)

  pub range→duty : DutyInRange users roles next d → duty_fits users roles next d && window_fits d ≡ true
  range→duty r = search (and_both, lt-ltb, le-leb)
