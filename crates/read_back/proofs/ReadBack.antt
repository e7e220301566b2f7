-- Reading what was saved gives the board back: each number is read where it stands, so the reader finds the
-- board's counts and records, and no check of reading applies, since the board keeps the rules.
use mathlib.Core.Path.{◌≡◌, refl, sym, ◌∙◌, ap}
use mathlib.Core.Bool.{Bool, true, ◌&&◌, ◌||◌}
use mathlib.Core.List.{List, [], ◌∷◌, ◌++◌}
use Prim.Native.Nat.{ℕ, zero, suc, ◌-◌, ◌<◌}
use native.Mathlib.Omega.{arith}
use lib.Dec.{eqb}
use lib.ListN.{length, get_or, replicate}
use borrow.Author.Tests.{eq-eqb}
use Rattle.orders.specs.Lists.{all}
use Rattle.orders.proofs.Tests.{and_left, and_right, and_both, or_right, clash}
use Rattle.board.specs.declared.Board.{Board}
use Rattle.board.specs.declared.Counts.{Counts}
use Rattle.board.specs.declared.Duty.{Duty}
use Rattle.board.specs.declared.Permission.{Permission}
use Rattle.board.specs.declared.Rule.{Rule}
use Rattle.board.specs.Answers.{NoneApplies}
use Rattle.board.specs.Filler.{no_permission, no_rule, no_duty, Sized}
use Rattle.board.specs.Good.{good, counts_fit, set_fits, permission_fits, rule_fits, duty_fits, what_fits}
use Rattle.board.specs.Good.{permission_below, rule_below, duty_below, rising, part_fits}
use Rattle.board.specs.Good.{holdings_fit, permissions_fit, rules_fit, duties_fit}
use Rattle.board.specs.Limits.{max_users, max_permissions, max_rules, max_duties}
use Rattle.board.specs.Saying.{padded, board_saying}
use Rattle.board.specs.View.{View, view}
use Rattle.board.specs.Windows.{window_fits}
use Rattle.board.proofs.SayingLaws.{ViewFits, view_fits, saying_good, saying_view}
use Rattle.layout.specs.Layout.{counts_of, next_of, permissions_from, rules_from, duties_from}
use Rattle.layout.specs.Layout.{total_of, laid_out}
use Rattle.file.specs.Records.{holding_at, permission_at, rule_at, rule_spare, duty_at, second_fits_at}
use Rattle.file.specs.Records.{fault_of, is_above, holding_fault, permission_fault, rule_fault, duty_fault}
use Rattle.file.specs.Reads.{filled, read_checks, board_of}
use Rattle.file.proofs.FirstFault.{NoFault, faultless_first}
use Rattle.save.specs.FileOf.{counts_said, file_of}
use Rattle.save.proofs.FileLaws.{file_length}
use Rattle.read_back.proofs.Fields.{all_at}
use Rattle.read_back.proofs.Parts.{by_number}
use Rattle.read_back.proofs.Places as places

-- ---- records by number

-- the records read, and filler in the rest of the room
filled_back :
    {A : Type 0} (at : ℕ → A) (filler : A) (room n : ℕ) (l : List A) → length l ≡ n
    → ((i : ℕ) → i < n → at i ≡ get_or l i filler) → filled at filler room n ≡ padded filler room l
filled_back at filler room n l e same =
    (λ i. by_number at l filler n e same i ++ replicate (room - sym e i) filler)

module _ {A : Type 0} (lower : A → A → Bool) where
  rising_at :
      (l : List A) (z : A) (i : ℕ) → rising lower l ≡ true → suc i < length l
      → lower (get_or l i z) (get_or l (suc i) z) ≡ true
  rising_at [] z i e h = absurd (omega arith)
  rising_at (x ∷ []) z i e h = absurd (omega arith)
  rising_at (x ∷ y ∷ l) z zero e h = and_left (lower x y) _ e
  rising_at (x ∷ y ∷ l) z (suc i) e h = rising_at (y ∷ l) z i (and_right (lower x y) _ e) (omega arith)

  above_at :
      (at : ℕ → A) (l : List A) (z : A) (n : ℕ) → length l ≡ n → rising lower l ≡ true
      → ((i : ℕ) → i < n → at i ≡ get_or l i z) → (i : ℕ) → i < n → is_above lower at i ≡ true
  above_at at l z n e r same zero h = refl
  above_at at l z n e r same (suc i) h =
      let last : suc i - 1 ≡ i = omega arith in
      ap (λ (b : Bool). eqb (suc i) 0 || b)
      (ap (λ (k : ℕ). lower (at k) (at (suc i))) last
      ∙ (λ j. lower (same i (omega arith) j) (same (suc i) h j))
      ∙ rising_at l z i r (omega arith))
      ∙ or_right (eqb (suc i) 0) true refl

fault_none :
    (fits window above : Bool) → fits ≡ true → window ≡ true → above ≡ true → fault_of fits window above ≡ 0
fault_none fits window above e f g = rw (e, f, g)

module _ (v : View) (fits : ViewFits v) where
  abbrev s : List ℕ
  s = file_of v

  abbrev n : Counts
  n = counts_said v

  abbrev counts_back : counts_of s ≡ n
  counts_back = places.counts_back v fits

  holdings_fit_lem : holdings_fit v ≡ true
  holdings_fit_lem = and_left (holdings_fit v) _ fits.records

  others : permissions_fit v && (rules_fit v && duties_fit v) ≡ true
  others = and_right (holdings_fit v) _ fits.records

  permissions_fit_lem : part_fits (permission_fits v.roles) permission_below v.permissions ≡ true
  permissions_fit_lem = and_left (permissions_fit v) _ others

  rules_fit_lem : part_fits (rule_fits v.roles) rule_below v.rules ≡ true
  rules_fit_lem = and_left (rules_fit v) _ (and_right (permissions_fit v) _ others)

  abbrev duty_test : Duty → Bool
  duty_test d = duty_fits v.users v.roles v.next d && window_fits d

  duties_fit_lem : part_fits duty_test duty_below v.duties ≡ true
  duties_fit_lem = and_right (rules_fit v) _ (and_right (permissions_fit v) _ others)

  duty_fits_lem : (i : ℕ) → i < length v.duties → duty_test (get_or v.duties i no_duty) ≡ true
  duty_fits_lem i h = all_at duty_test v.duties no_duty (and_left (all duty_test v.duties) _ duties_fit_lem) i h

  duty_back : (i : ℕ) → i < length v.duties → duty_at s i ≡ get_or v.duties i no_duty
  duty_back i h = places.duty_back v fits i h what_fits_lem
    where
      what_fits_lem : what_fits v.users v.roles (get_or v.duties i no_duty).what ≡ true
      what_fits_lem = let f = duty_fits_lem i h in search (and_left, and_right) depth 8

  -- ---- the board

  pub board_said : board_of s ≡ board_saying v
  unfolding board_of board_saying
  board_said =
      (λ j.
      record {
        counts = counts_back j;
        clock = places.clock_back v fits j;
        next = record { 0 = places.next_back v fits j };
        holdings = filled (holding_at s) 0 max_users (counts_back j).users;
        permissions = filled (permission_at s) no_permission max_permissions (counts_back j).permissions;
        rules = filled (rule_at s) no_rule max_rules (counts_back j).rules;
        duties = filled (duty_at s) no_duty max_duties (counts_back j).duties;
      })
      ∙ (λ j.
      record {
        counts = n;
        clock = v.clock;
        next = record { 0 = v.next };
        holdings =
            filled_back (holding_at s) 0 max_users v.users v.holdings fits.held
            (places.holding_back v fits) j;
        permissions =
            filled_back (permission_at s) no_permission max_permissions n.permissions v.permissions refl
            (places.permission_back v fits) j;
        rules =
            filled_back (rule_at s) no_rule max_rules n.rules v.rules refl (places.rule_back v fits) j;
        duties = filled_back (duty_at s) no_duty max_duties n.duties v.duties refl duty_back j;
      })

  -- ---- no fault

  holding_none : (i : ℕ) → i < v.users → holding_fault s i ≡ 0
  holding_none i h =
      fault_none (set_fits (counts_of s).roles (holding_at s i)) true true
      ((λ j. set_fits (counts_back j).roles (places.holding_back v fits i h j))
      ∙ all_at (set_fits v.roles) v.holdings 0 holdings_fit_lem i (omega (arith, fits.held)))
      refl refl

  permission_none : (i : ℕ) → i < length v.permissions → permission_fault s i ≡ 0
  permission_none i h =
      fault_none (permission_fits (counts_of s).roles (permission_at s i)) true
      (is_above permission_below (permission_at s) i)
      ((λ j. permission_fits (counts_back j).roles (places.permission_back v fits i h j))
      ∙ all_at test v.permissions no_permission all_fit i h)
      refl
      (above_at permission_below (permission_at s) v.permissions no_permission n.permissions refl
      (and_right (all test v.permissions) _ permissions_fit_lem) (places.permission_back v fits) i h)
    where
      test : Permission → Bool
      test = permission_fits v.roles

      all_fit : all test v.permissions ≡ true
      all_fit = and_left (all test v.permissions) _ permissions_fit_lem

  rule_none : (i : ℕ) → i < length v.rules → rule_fault s i ≡ 0
  rule_none i h =
      fault_none (rule_fits (counts_of s).roles (rule_at s i) && eqb (rule_spare s i) 0) true
      (is_above rule_below (rule_at s) i)
      (and_both (rule_fits (counts_of s).roles (rule_at s i)) (eqb (rule_spare s i) 0)
      ((λ j. rule_fits (counts_back j).roles (places.rule_back v fits i h j))
      ∙ all_at test v.rules no_rule (and_left (all test v.rules) _ rules_fit_lem) i h)
      (eq-eqb (rule_spare s i) 0 (places.spare_back v fits i h)))
      refl
      (above_at rule_below (rule_at s) v.rules no_rule n.rules refl
      (and_right (all test v.rules) _ rules_fit_lem) (places.rule_back v fits) i h)
    where
      test : Rule → Bool
      test = rule_fits v.roles

  duty_none : (i : ℕ) → i < length v.duties → duty_fault s i ≡ 0
  duty_none i h =
      fault_none (read (duty_at s i) && second_fits_at s i) (window_fits (duty_at s i))
      (is_above duty_below (duty_at s) i)
      (and_both (read (duty_at s i)) (second_fits_at s i) (read_fits ∙ and_left (test duty) _ (duty_fits_lem i h))
      (places.second_back v fits i h))
      (ap window_fits (duty_back i h) ∙ and_right (test duty) _ (duty_fits_lem i h))
      (above_at duty_below (duty_at s) v.duties no_duty n.duties refl
      (and_right (all duty_test v.duties) _ duties_fit_lem) duty_back i h)
    where
      duty : Duty
      duty = get_or v.duties i no_duty

      test : Duty → Bool
      test = duty_fits v.users v.roles v.next

      read : Duty → Bool
      read = duty_fits (counts_of s).users (counts_of s).roles (next_of s)

      read_fits : read (duty_at s i) ≡ test duty
      read_fits =
          λ j.
          duty_fits (counts_back j).users (counts_back j).roles (places.next_back v fits j) (duty_back i h j)

  no_fault : NoFault s
  no_fault =
      record {
        holdings = λ i h. holding_none i (rw (ap (λ (m : Counts). m.users) counts_back) at h);
        permissions = λ i h. permission_none i (rw (ap (λ (m : Counts). m.permissions) counts_back) at h);
        rules = λ i h. rule_none i (rw (ap (λ (m : Counts). m.rules) counts_back) at h);
        duties = λ i h. duty_none i (rw (ap (λ (m : Counts). m.duties) counts_back) at h);
      }

  -- ---- the header

  whole_length : length s ≡ total_of n
  whole_length = file_length v fits.held

  counts_fit_lem : counts_fit (counts_of s) (next_of s) ≡ true
  unfolding good board_saying
  counts_fit_lem =
      (λ j. counts_fit (counts_back j) (places.next_back v fits j))
      ∙ and_left (counts_fit n v.next) _ (saying_good v fits)

  laid_out_lem : laid_out s ≡ true
  laid_out_lem =
      let r = places.offsets_read v fits in
      let All_Said = ap total_of counts_back in
      search (
        and_both,
        eq-eqb _ _ r.0,
        eq-eqb _ _ (r.1.0 ∙ sym (ap permissions_from counts_back)),
        eq-eqb _ _ (r.1.1.0 ∙ sym (ap rules_from counts_back)),
        eq-eqb _ _ (r.1.1.1.0 ∙ sym (ap duties_from counts_back)),
        eq-eqb _ _ (r.1.1.1.1.0 ∙ sym All_Said),
        eq-eqb _ _ (r.1.1.1.1.0 ∙ sym whole_length),
      ) depth 8

  pub reads_back : NoneApplies (read_checks s)
  reads_back =
      let r = (places.offsets_read v fits).1.1.1.1.0 in
      let none = faultless_first s no_fault in (
        λ h. omega (arith, whole_length),
        (
          λ f. f (places.counts_read v fits).0,
          (
            λ e. clash counts_fit_lem e,
            (
              λ e. clash laid_out_lem e,
              (
                λ h. omega (arith, r, fits.users, fits.permissions, fits.rules, fits.duties),
                (λ e. omega (arith, none), (λ e. omega (arith, none), (λ e. omega (arith, none), tt))),
              ),
            ),
          ),
        ),
      )

-- Reading the file of a good board value: no check applies, and the board is that value.
module _ (b : Board) (sized : Sized b) (g : good b ≡ true) where
  pub file_read : NoneApplies (read_checks (file_of (view b)))
  file_read = reads_back (view b) (view_fits b sized g)

  pub board_back : board_of (file_of (view b)) ≡ b
  board_back = board_said (view b) (view_fits b sized g) ∙ saying_view b sized g
