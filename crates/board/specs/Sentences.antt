-- Document 01's sentences, section Permitted, written out: when a use, a grant and a revoke are permitted,
-- and what each changes. `s` says who holds which role. That `permitted_now` and the world of the board say
-- just this is proved in proofs/Sentences.antt and proofs/Changed.antt.
use Rattle.std.specs.Prelude.{◌≡◌, ◌≢◌, Bool, true, false, ℕ, ◌<◌}
use Rattle.orders.specs.Lists.{Mem}
use Rattle.roles.specs.Roles.{in_set}
use Rattle.board.specs.declared.Permission.{Permission}
use Rattle.board.specs.declared.Rule.{Rule}
use Rattle.board.specs.declared.What.{What}
use Rattle.board.specs.declared.What.TheVariants.{Grant, Revoke, Use}
use Rattle.board.specs.Limits.{max_roles}
use Rattle.board.specs.Permitted.{Holding}
use Rattle.board.specs.View.{View}

-- ---- permitted

-- A use is permitted if a permission for that action and object exists and the doer holds its role.
pub record UsePermitted (v : View) (s : Holding → Bool) (doer action object : ℕ) : Type 0 where
  pub permission : Permission
  pub exists : Mem permission v.permissions
  pub for_action : permission.action ≡ action
  pub for_object : permission.object ≡ object
  pub held : s (doer, permission.role) ≡ true

-- The doer holds the rule's actor role, and the target holds every wanted role and no barred role of the
-- rule.
pub record MeetsRule (s : Holding → Bool) (doer target : ℕ) (rule : Rule) : Type 0 where
  pub actor : s (doer, rule.actor) ≡ true
  pub wanted : (q : ℕ) → q < max_roles → in_set rule.wanted q ≡ true → s (target, q) ≡ true
  pub barred : (q : ℕ) → q < max_roles → in_set rule.barred q ≡ true → s (target, q) ≡ false

-- A grant (revoke) of a role is permitted if an assign (revoke) rule for that role exists that doer and
-- target meet. The rule's kind is 0 for assign and 1 for revoke.
pub record ChangePermitted (v : View) (s : Holding → Bool) (kind doer target role : ℕ) : Type 0 where
  pub rule : Rule
  pub exists : Mem rule v.rules
  pub of_kind : rule.kind ≡ kind
  pub for_role : rule.role ≡ role
  pub meets : MeetsRule s doer target rule

abbrev pub Sentence : View → (Holding → Bool) → ℕ → What → Type 0
Sentence v s doer (Grant target role) = ChangePermitted v s 0 doer target role
Sentence v s doer (Revoke target role) = ChangePermitted v s 1 doer target role
Sentence v s doer (Use action object) = UsePermitted v s doer action object

-- ---- changed

-- this holding becomes held (or not), and no other changes
pub record Sets (s : Holding → Bool) (h : Holding) (held : Bool) (after : Holding → Bool) : Type 0 where
  pub there : after h ≡ held
  pub elsewhere : (k : Holding) → k ≢ h → after k ≡ s k

-- A grant makes the target hold the role, a revoke makes it not hold it. A use changes no holding.
abbrev pub Change : (Holding → Bool) → What → (Holding → Bool) → Type 0
Change s (Grant target role) after = Sets s (target, role) true after
Change s (Revoke target role) after = Sets s (target, role) false after
Change s (Use action object) after = (h : Holding) → after h ≡ s h
