-- What a good board value is: every rule of document 01, section Board file, and the filler beyond each
-- count. A value that breaks one of them gets answer 19. The tests of one record are the file reader's too.
use Rattle.std.specs.Prelude.{Bool, true, false, ◌&&◌, ◌||◌, List, [], ◌∷◌, ℕ, ◌^◌, eqb, ltb, leb, drop}
use Rattle.orders.specs.Lists.{all}
use Rattle.board.specs.declared.Board.{Board}
use Rattle.board.specs.declared.Counts.{Counts}
use Rattle.board.specs.declared.Duty.{Duty}
use Rattle.board.specs.declared.Permission.{Permission}
use Rattle.board.specs.declared.Rule.{Rule}
use Rattle.board.specs.declared.What.{What}
use Rattle.board.specs.declared.What.TheVariants.{Grant, Revoke, Use}
use Rattle.board.specs.Limits.{
  max_users,
  max_roles,
  max_permissions,
  max_rules,
  max_duties,
  max_next,
  actions,
  objects,
}
use Rattle.board.specs.View.{View, view}
use Rattle.board.specs.Windows.{window_fits}

-- ---- counts

-- every count and the next serial in its range
abbrev pub counts_fit : Counts → ℕ → Bool
counts_fit n next =
    (leb 1 n.users && leb n.users max_users)
    && ((leb 1 n.roles && leb n.roles max_roles)
    && (leb n.permissions max_permissions
    && (leb n.rules max_rules && (leb n.duties max_duties && (leb 1 next && leb next max_next)))))

-- ---- one record: its fields in range (else 5), its window (else 7), above the one before it (else 6)

-- no bit at or above the role count is set
abbrev pub set_fits : ℕ → ℕ → Bool
set_fits roles set = ltb set (2 ^ roles)

abbrev pub use_fits : ℕ → ℕ → Bool
use_fits action object = leb 2 action && (ltb action actions && ltb object objects)

abbrev pub permission_fits : ℕ → Permission → Bool
permission_fits roles p = ltb p.role roles && use_fits p.action p.object

abbrev pub rule_fits : ℕ → Rule → Bool
rule_fits roles r =
    ltb r.kind 2
    && (ltb r.actor roles
    && (ltb r.role roles && (set_fits roles r.wanted && set_fits roles r.barred)))

abbrev pub what_fits : ℕ → ℕ → What → Bool
what_fits users roles (Grant target role) = ltb target users && ltb role roles
what_fits users roles (Revoke target role) = ltb target users && ltb role roles
what_fits users roles (Use action object) = use_fits action object

abbrev pub duty_fits : ℕ → ℕ → ℕ → Duty → Bool
duty_fits users roles next d =
    ltb 0 d.serial.0
    && (ltb d.serial.0 next && (ltb d.doer users && what_fits users roles d.what))

-- by the first number, then by the second
abbrev pub pair_below : ℕ → ℕ → ℕ → ℕ → Bool
pair_below a b c d = ltb a c || (eqb a c && ltb b d)

abbrev pub permission_below : Permission → Permission → Bool
permission_below p q = pair_below p.action p.object q.action q.object

abbrev pub rule_below : Rule → Rule → Bool
rule_below r s = pair_below r.kind r.role s.kind s.role

abbrev pub duty_below : Duty → Duty → Bool
duty_below d e = ltb d.serial.0 e.serial.0

-- ---- all records

-- the first of these, if there is one, is above x
abbrev pub next_above : {A : Type 0} → (A → A → Bool) → A → List A → Bool
next_above below x [] = true
next_above below x (y ∷ l) = below x y

-- each is above the one before it
abbrev pub rising : {A : Type 0} → (A → A → Bool) → List A → Bool
rising below [] = true
rising below (x ∷ l) = next_above below x l && rising below l

-- each record fits, and each is above the one before it
abbrev pub part_fits : {A : Type 0} → (A → Bool) → (A → A → Bool) → List A → Bool
part_fits fits below l = all fits l && rising below l

abbrev pub holdings_fit : View → Bool
holdings_fit v = all (set_fits v.roles) v.holdings

abbrev pub permissions_fit : View → Bool
permissions_fit v = part_fits (permission_fits v.roles) permission_below v.permissions

abbrev pub rules_fit : View → Bool
rules_fit v = part_fits (rule_fits v.roles) rule_below v.rules

abbrev pub duties_fit : View → Bool
duties_fit v =
    part_fits (λ d. duty_fits v.users v.roles v.next d && window_fits d) duty_below v.duties

-- what a board says keeps every rule of the file's records
abbrev pub records_fit : View → Bool
records_fit v = holdings_fit v && (permissions_fit v && (rules_fit v && duties_fit v))

-- ---- the filler

abbrev pub is_no_permission : Permission → Bool
is_no_permission p = eqb p.role 0 && (eqb p.action 0 && eqb p.object 0)

abbrev pub is_no_rule : Rule → Bool
is_no_rule r =
    eqb r.kind 0
    && (eqb r.actor 0 && (eqb r.role 0 && (eqb r.wanted 0 && eqb r.barred 0)))

abbrev pub is_no_what : What → Bool
is_no_what (Grant target role) = eqb target 0 && eqb role 0
is_no_what (Revoke target role) = false
is_no_what (Use action object) = false

abbrev pub is_no_duty : Duty → Bool
is_no_duty d =
    eqb d.serial.0 0
    && (eqb d.doer 0 && (is_no_what d.what && (eqb d.start 0 && eqb d.end 0)))

-- beyond each count stands the filler
abbrev pub filler_beyond : Board → Bool
filler_beyond b =
    all (λ set. eqb set 0) (drop b.counts.users b.holdings)
    && (all is_no_permission (drop b.counts.permissions b.permissions)
    && (all is_no_rule (drop b.counts.rules b.rules)
    && all is_no_duty (drop b.counts.duties b.duties)))

-- ---- the whole

-- A good board value: counts in range, records by the rules, filler beyond.
unfoldable pub good : Board → Bool
good b = counts_fit b.counts b.next.0 && (records_fit (view b) && filler_beyond b)
