-- The board of an accepted file. What it says is what the records say. It is good: its counts fit; no
-- record has a fault, so each fits and stands above the one before it; and beyond each count stands the
-- filler.
use mathlib.Core.Path.{◌≡◌, refl, sym, ◌∙◌, ap}
use mathlib.Core.Bool.{Bool, true, false, ◌&&◌}
use mathlib.Core.List.{List, map}
use Prim.Native.Nat.{ℕ, ◌≤◌}
use native.Mathlib.Omega.{arith}
use lib.Dec.{eqb}
use lib.ListN.{length}
use borrow.Author.Tests.{eqb-true}
use Rattle.orders.proofs.Tests.{and_left, and_right, and_both, is_true}
use Rattle.board.specs.declared.Duty.{Duty}
use Rattle.board.specs.Filler.{no_permission, no_rule, no_duty, Sized}
use Rattle.board.specs.Good.{good, counts_fit, set_fits, permission_fits, rule_fits, duty_fits}
use Rattle.board.specs.Good.{permission_below, rule_below, duty_below}
use Rattle.board.specs.Good.{holdings_fit, permissions_fit, rules_fit, duties_fit, records_fit}
use Rattle.board.specs.Limits.{max_users, max_permissions, max_rules, max_duties}
use Rattle.board.specs.Permitted.{below}
use Rattle.board.specs.View.{View, view}
use Rattle.board.specs.Windows.{window_fits}
use Rattle.board.specs.Answers.{NoneApplies}
use Rattle.board.proofs.AnswersLaws.{Refusing, none_done, none_first, none_second}
use Rattle.board.proofs.InRange.{CountsInRange, counts→range}
use Rattle.board.proofs.FillerLaws.{FillerBeyond, beyond→filler}
use Rattle.board.proofs.GoodLaws.{parts→good}
use Rattle.layout.specs.Layout.{header_size, counts_of, clock_of, next_of, stated_total, total_of, laid_out}
use Rattle.file.specs.Records.{holding_at, permission_at, rule_at, rule_spare, duty_at, second_fits_at}
use Rattle.file.specs.Records.{fault_of, is_above, first_fault}
use Rattle.file.specs.Reads.{header_checks, record_checks, read_checks, board_of}
use Rattle.file.proofs.FirstFault.{NoFault, no_fault, fault_answers}
use Rattle.file.proofs.Filled.{all_fit, part_fits_lem, filled_length, filled_take, filled_drop}

-- ---- the board of any file

-- what the records say
abbrev pub view_of : List ℕ → View
view_of s =
    record {
      users = (counts_of s).users;
      roles = (counts_of s).roles;
      clock = clock_of s;
      next = next_of s;
      holdings = map (holding_at s) (below (counts_of s).users);
      permissions = map (permission_at s) (below (counts_of s).permissions);
      rules = map (rule_at s) (below (counts_of s).rules);
      duties = map (duty_at s) (below (counts_of s).duties);
    }

module _ (s : List ℕ) where
  pub view_of_lem : view (board_of s) ≡ view_of s
  unfolding board_of
  view_of_lem =
      λ i.
      record {
        users = (counts_of s).users;
        roles = (counts_of s).roles;
        clock = clock_of s;
        next = next_of s;
        holdings = filled_take (holding_at s) 0 max_users (counts_of s).users i;
        permissions = filled_take (permission_at s) no_permission max_permissions (counts_of s).permissions i;
        rules = filled_take (rule_at s) no_rule max_rules (counts_of s).rules i;
        duties = filled_take (duty_at s) no_duty max_duties (counts_of s).duties i;
      }

  sized_of : CountsInRange (counts_of s) (next_of s) → Sized (board_of s)
  unfolding board_of
  sized_of r =
      record {
        holdings = filled_length (holding_at s) 0 max_users (counts_of s).users r.users;
        permissions =
            filled_length (permission_at s) no_permission max_permissions (counts_of s).permissions
            r.permissions;
        rules = filled_length (rule_at s) no_rule max_rules (counts_of s).rules r.rules;
        duties = filled_length (duty_at s) no_duty max_duties (counts_of s).duties r.duties;
      }

  filler_of : FillerBeyond (board_of s)
  unfolding board_of
  filler_of =
      record {
        holdings = filled_drop (holding_at s) 0 max_users (counts_of s).users;
        permissions = filled_drop (permission_at s) no_permission max_permissions (counts_of s).permissions;
        rules = filled_drop (rule_at s) no_rule max_rules (counts_of s).rules;
        duties = filled_drop (duty_at s) no_duty max_duties (counts_of s).duties;
      }

-- ---- no fault

pub faultless :
    {P : Type 0} (fits window above : Bool) → fault_of fits window above ≡ 0
    → (fits ≡ true → window ≡ true → above ≡ true → P) → P
faultless true true true e f = f refl refl refl
faultless true true false e f = absurd (omega arith)
faultless true false above e f = absurd (omega arith)
faultless false window above e f = absurd (omega arith)

module _ (s : List ℕ) (none : NoFault s) where
  holdings_fit_lem : holdings_fit (view_of s) ≡ true
  holdings_fit_lem =
      all_fit (holding_at s) (set_fits (counts_of s).roles) (counts_of s).users
      (λ i h.
      faultless (set_fits (counts_of s).roles (holding_at s i)) true true (none.holdings i h) (λ f w a. f))

  permissions_fit_lem : permissions_fit (view_of s) ≡ true
  permissions_fit_lem =
      part_fits_lem (permission_at s) permission_below (permission_fits (counts_of s).roles)
      (counts_of s).permissions
      (λ i h.
      faultless (permission_fits (counts_of s).roles (permission_at s i)) true
      (is_above permission_below (permission_at s) i) (none.permissions i h) (λ f w a. (f, a)))

  rules_fit_lem : rules_fit (view_of s) ≡ true
  rules_fit_lem =
      part_fits_lem (rule_at s) rule_below (rule_fits (counts_of s).roles) (counts_of s).rules
      (λ i h.
      faultless (rule_fits (counts_of s).roles (rule_at s i) && eqb (rule_spare s i) 0) true
      (is_above rule_below (rule_at s) i) (none.rules i h) (λ f w a. (search and_left, a)))

  duties_fit_lem : duties_fit (view_of s) ≡ true
  duties_fit_lem =
      part_fits_lem (duty_at s) duty_below (λ d. fits d && window_fits d) (counts_of s).duties
      (λ i h.
      faultless (fits (duty_at s i) && second_fits_at s i) (window_fits (duty_at s i))
      (is_above duty_below (duty_at s) i) (none.duties i h) (λ f w a. (search (and_both, and_left), a)))
    where
      fits : Duty → Bool
      fits = duty_fits (counts_of s).users (counts_of s).roles (next_of s)

  records_fit_lem : records_fit (view_of s) ≡ true
  records_fit_lem = search (and_both, holdings_fit_lem, permissions_fit_lem, rules_fit_lem, duties_fit_lem)

-- ---- the checks

pub header_refuses : (s : List ℕ) → Refusing (header_checks s)
header_refuses s = refl

pub read_refuses : (s : List ℕ) → Refusing (read_checks s)
read_refuses s = refl

-- what a header tells of which no check applies
pub record HeaderPasses (s : List ℕ) : Type 0 where
  pub long : header_size ≤ length s
  pub counts : counts_fit (counts_of s) (next_of s) ≡ true
  pub total : total_of (counts_of s) ≡ length s

total_of_lem : (s : List ℕ) → laid_out s ≡ true → total_of (counts_of s) ≡ length s
total_of_lem s e = sym t.0 ∙ t.1
  where
    t : (stated_total s ≡ total_of (counts_of s)) × (stated_total s ≡ length s)
    t = search (and_left, and_right, eqb-true) depth 8

pub header_passes : (s : List ℕ) → NoneApplies (header_checks s) → HeaderPasses s
header_passes s none =
    record {
      long = let short = none.0 in omega arith;
      counts = is_true (counts_fit (counts_of s) (next_of s)) none.1.1.0;
      total = total_of_lem s (is_true (laid_out s) none.1.1.1.0);
    }

-- ---- an accepted file

module _ (s : List ℕ) (none : NoneApplies (read_checks s)) where
  pub accepted_header : HeaderPasses s
  accepted_header = header_passes s (none_first (header_checks s) (record_checks s) none)

  pub accepted_faultless : NoFault s
  accepted_faultless =
      no_fault s
      (none_done (record_checks s) (first_fault s) (none_second (header_checks s) (record_checks s) none)
      (fault_answers s))

  pub accepted_counts : CountsInRange (counts_of s) (next_of s)
  accepted_counts = counts→range (counts_of s) (next_of s) accepted_header.counts

  pub accepted_sized : Sized (board_of s)
  accepted_sized = sized_of s accepted_counts

  pub accepted_good : good (board_of s) ≡ true
  unfolding board_of
  accepted_good =
      parts→good (board_of s) accepted_counts
      (ap records_fit (view_of_lem s) ∙ records_fit_lem s accepted_faultless)
      (beyond→filler (board_of s) (filler_of s))
