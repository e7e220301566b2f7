-- What a good board value says, part by part, and that these facts make it good: counts in range, each record
-- in range and above all earlier ones, filler beyond each count.
use mathlib.Core.Path.{◌≡◌}
use mathlib.Core.Bool.{Bool, true, ◌&&◌}
use Prim.Native.Nat.{ℕ, ◌<◌, ◌^◌}
use borrow.Author.Tests.{ltb-true, lt-ltb}
use Rattle.orders.specs.Lists.{Mem}
use Rattle.orders.proofs.Tests.{and_left, and_right, and_both}
use Rattle.orders.proofs.Lists.{all_mem, all_in}
use Rattle.board.specs.declared.Board.{Board}
use Rattle.board.specs.declared.Duty.{Duty}
use Rattle.board.specs.View.{View, view}
use Rattle.board.specs.Good.{good, set_fits, permission_fits, rule_fits, duty_fits, filler_beyond}
use Rattle.board.specs.Good.{permission_below, rule_below, duty_below}
use Rattle.board.specs.Good.{holdings_fit, permissions_fit, rules_fit, duties_fit, records_fit}
use Rattle.board.specs.Windows.{window_fits}
use Rattle.board.proofs.InRange.{
  CountsInRange,
  counts→range,
  range→counts,
  PermissionInRange,
  RuleInRange,
  DutyInRange,
  permission→range,
  range→permission,
  rule→range,
  range→rule,
  duty→range,
  range→duty,
}
use Rattle.board.proofs.Rising.{pair_trans, ltb_trans, Part, fits→part, part→fits}

-- ---- all records

-- the fields and the window of a duty
abbrev duty_right : View → Duty → Bool
duty_right v d = duty_fits v.users v.roles v.next d && window_fits d

pub record RecordsInRange (v : View) : Type 0 where
  pub holdings : (set : ℕ) → Mem set v.holdings → set < 2 ^ v.roles
  pub permissions :
      Part (PermissionInRange v.roles) (λ p q. permission_below p q ≡ true) v.permissions
  pub rules : Part (RuleInRange v.roles) (λ r s. rule_below r s ≡ true) v.rules
  pub duties :
      Part (DutyInRange v.users v.roles v.next) (λ d e. d.serial.0 < e.serial.0) v.duties

pub records→range : (v : View) → records_fit v ≡ true → RecordsInRange v
records→range v e =
    record {
      holdings = λ set m. ltb-true set (2 ^ v.roles) (all_mem (set_fits v.roles) (search (and_left)) m);
      permissions =
          fits→part (permission_fits v.roles) permission_below v.permissions
          (permission→range v.roles) (λ p q h. h)
          (λ p q r. pair_trans p.action p.object q.action q.object r.action r.object)
          (search (and_left, and_right));
      rules =
          fits→part (rule_fits v.roles) rule_below v.rules
          (rule→range v.roles) (λ r s h. h)
          (λ r s t. pair_trans r.kind r.role s.kind s.role t.kind t.role)
          (search (and_left, and_right));
      duties =
          fits→part (duty_right v) duty_below v.duties
          (duty→range v.users v.roles v.next) (λ d e. ltb-true d.serial.0 e.serial.0)
          (λ c d e. ltb_trans c.serial.0 d.serial.0 e.serial.0)
          (search (and_left, and_right));
    }

pub range→records : (v : View) → RecordsInRange v → records_fit v ≡ true
range→records v r = search (and_both, hs, ps, rs, ds)
  where
    hs : holdings_fit v ≡ true
    hs = all_in (set_fits v.roles) v.holdings (λ set m. lt-ltb set (2 ^ v.roles) (r.holdings set m))

    ps : permissions_fit v ≡ true
    ps =
        part→fits (permission_fits v.roles) permission_below v.permissions
        (range→permission v.roles) (λ p q h. h) r.permissions

    rs : rules_fit v ≡ true
    rs =
        part→fits (rule_fits v.roles) rule_below v.rules
        (range→rule v.roles) (λ p q h. h) r.rules

    ds : duties_fit v ≡ true
    ds =
        part→fits (duty_right v) duty_below v.duties
        (range→duty v.users v.roles v.next) (λ d e. lt-ltb d.serial.0 e.serial.0) r.duties

-- ---- the whole

pub good→counts : (b : Board) → good b ≡ true → CountsInRange b.counts b.next.0
unfolding good
good→counts b e = counts→range b.counts b.next.0 (search and_left)

pub good→records : (b : Board) → good b ≡ true → records_fit (view b) ≡ true
unfolding good
good→records b e = search (and_left, and_right)

pub good→filler : (b : Board) → good b ≡ true → filler_beyond b ≡ true
unfolding good
good→filler b e = search and_right

pub parts→good :
    (b : Board) → CountsInRange b.counts b.next.0 → records_fit (view b) ≡ true
    → filler_beyond b ≡ true → good b ≡ true
unfolding good
parts→good b n r f = let c = range→counts b.counts b.next.0 n in search and_both
