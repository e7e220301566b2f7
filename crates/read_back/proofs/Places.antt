-- In the file of a board each number stands at the place where the reader reads it: header, parts in turn,
-- and the fields of each record.
use mathlib.Core.Path.{◌≡◌, refl, ◌∙◌, ap}
use mathlib.Core.Bool.{true, ◌||◌}
use mathlib.Core.List.{List, [], ◌++◌}
use Prim.Native.Nat.{ℕ, ◌+◌, ◌*◌, ◌≤◌, ◌<◌}
use native.Mathlib.Nat.{add-zero}
use native.Mathlib.Omega.{arith}
use lib.Dec.{eqb, leb}
use lib.ListN.{length, get_or}
use borrow.Author.Tests.{leb-true, ne_eqb}
use Rattle.orders.proofs.Tests.{and_left, or_right}
use Rattle.board.specs.declared.Counts.{Counts}
use Rattle.board.specs.declared.Duty.{Duty}
use Rattle.board.specs.declared.Permission.{Permission}
use Rattle.board.specs.declared.Rule.{Rule}
use Rattle.board.specs.declared.What.{What}
use Rattle.board.specs.declared.What.TheVariants.{Grant, Revoke, Use}
use Rattle.board.specs.Doing.{what_of, action_of, first_of, second_of, second_fits}
use Rattle.board.specs.Filler.{no_permission, no_rule, no_duty}
use Rattle.board.specs.Good.{what_fits}
use Rattle.board.specs.View.{View}
use Rattle.board.proofs.SayingLaws.{ViewFits}
use Rattle.layout.specs.Bytes.{two, four, four_bytes}
use Rattle.layout.specs.Layout.{counts_of, clock_of, next_of, holdings_from, permissions_from, rules_from}
use Rattle.layout.specs.Layout.{duties_from, holding_size, permission_size, rule_size, duty_size}
use Rattle.file.specs.Records.{holding_at, permission_at, rule_at, rule_spare, duty_at, second_fits_at}
use Rattle.save.specs.FileOf.{counts_said, counts_bytes, offsets_bytes, header_bytes, permission_bytes, rule_bytes}
use Rattle.save.specs.FileOf.{duty_bytes, part, file_of}
use Rattle.save.proofs.PartLaws.{part_length}
use Rattle.read_back.proofs.Stands.{Stands, stands_first, stands_second, stands_whole}
use Rattle.read_back.proofs.Fields.{AllRead, fields_read, four_read}
use Rattle.read_back.proofs.Records.{permission_fields, rule_fields, duty_fields}
use Rattle.read_back.proofs.Records.{counts_fields, offsets_fields}
use Rattle.read_back.proofs.Parts.{record_stands}

-- ---- what the bytes at a place say

abbrev permission_read_at : List ℕ → ℕ → Permission
permission_read_at s at = record { role = two s at; action = two s (at + 2); object = two s (at + 4) }

abbrev rule_read_at : List ℕ → ℕ → Rule
rule_read_at s at =
    record {
      kind = two s at;
      actor = two s (at + 2);
      role = two s (at + 4);
      wanted = four s (at + 8);
      barred = four s (at + 12);
    }

abbrev duty_read_at : List ℕ → ℕ → Duty
duty_read_at s at =
    record {
      serial = record { 0 = four s at };
      doer = two s (at + 4);
      what = what_of (two s (at + 6)) (two s (at + 8)) (two s (at + 10));
      start = four s (at + 12);
      end = four s (at + 16);
    }

-- ---- what is to be done, told by numbers and back

what_back :
    (users roles : ℕ) (w : What) → what_fits users roles w ≡ true
    → what_of (action_of w) (first_of w) (second_of w) ≡ w
what_back users roles (Grant target role) f = refl
what_back users roles (Revoke target role) f = refl
what_back users roles (Use action object) f =
    let least : 2 ≤ action = leb-true 2 action (and_left (leb 2 action) _ f) in
    rw (ne_eqb action 0 (λ e. omega arith), ne_eqb action 1 (λ e. omega arith))

second_fits_lem : (w : What) → second_fits (action_of w) (second_of w) ≡ true
second_fits_lem (Grant target role) = refl
second_fits_lem (Revoke target role) = refl
second_fits_lem (Use action object) = or_right (eqb action 0 || eqb action 1) (eqb 0 0) refl

module _ (v : View) (fits : ViewFits v) where
  abbrev s : List ℕ
  s = file_of v

  abbrev n : Counts
  n = counts_said v

  -- ---- where everything stands

  whole :
      Stands s 0
      (header_bytes n v.clock v.next
      ++ (part four_bytes v.holdings
      ++ (part permission_bytes v.permissions
      ++ (part rule_bytes v.rules ++ (part duty_bytes v.duties ++ [])))))
  unfolding file_of
  whole = stands_whole s

  header : Stands s 0 (header_bytes n v.clock v.next)
  header = stands_first (header_bytes n v.clock v.next) _ whole

  pub counts_read : AllRead s 0 0 (counts_fields n)
  counts_read = fields_read s (counts_fields n) 0 0 (stands_first (counts_bytes n) _ header)

  after_counts : Stands s 12 (four_bytes v.clock ++ (four_bytes v.next ++ (offsets_bytes n ++ [])))
  after_counts = stands_second (counts_bytes n) _ refl header

  after_clock : Stands s 16 (four_bytes v.next ++ (offsets_bytes n ++ []))
  after_clock = stands_second (four_bytes v.clock) _ refl after_counts

  pub clock_back : clock_of s ≡ v.clock
  clock_back = four_read s 12 v.clock (stands_first (four_bytes v.clock) _ after_counts)

  pub next_back : next_of s ≡ v.next
  next_back = four_read s 16 v.next (stands_first (four_bytes v.next) _ after_clock)

  pub offsets_read : AllRead s 20 0 (offsets_fields n)
  offsets_read =
      fields_read s (offsets_fields n) 20 0
      (stands_first (offsets_bytes n) [] (stands_second (four_bytes v.next) _ refl after_clock))

  pub counts_back : counts_of s ≡ n
  counts_back =
      λ i.
      record {
        users = counts_read.1.0 i;
        roles = counts_read.1.1.0 i;
        permissions = counts_read.1.1.1.0 i;
        rules = counts_read.1.1.1.1.0 i;
        duties = counts_read.1.1.1.1.1.0 i;
      }

  -- ---- the parts, each after the one before it

  abbrev duties : List ℕ
  duties = part duty_bytes v.duties ++ []

  abbrev rules : List ℕ
  rules = part rule_bytes v.rules ++ duties

  abbrev permissions : List ℕ
  permissions = part permission_bytes v.permissions ++ rules

  holdings_stand : Stands s holdings_from (part four_bytes v.holdings ++ permissions)
  holdings_stand = stands_second (header_bytes n v.clock v.next) _ refl whole

  permissions_stand : Stands s (permissions_from n) permissions
  permissions_stand =
      stands_second (part four_bytes v.holdings) permissions
      (omega (arith, part_length four_bytes holding_size (λ x. refl) v.holdings, fits.held))
      holdings_stand

  rules_stand : Stands s (rules_from n) rules
  rules_stand =
      stands_second (part permission_bytes v.permissions) rules
      (omega (arith, part_length permission_bytes permission_size (λ x. refl) v.permissions))
      permissions_stand

  duties_stand : Stands s (duties_from n) duties
  duties_stand =
      stands_second (part rule_bytes v.rules) duties
      (omega (arith, part_length rule_bytes rule_size (λ x. refl) v.rules)) rules_stand

  -- ---- the records, read at their places

  pub holding_back : (i : ℕ) → i < v.users → holding_at s i ≡ get_or v.holdings i 0
  holding_back i h =
      four_read s (holdings_from + i * holding_size) (get_or v.holdings i 0)
      (record_stands four_bytes holding_size (λ x. refl) s v.holdings 0 holdings_from i
      (stands_first (part four_bytes v.holdings) permissions holdings_stand) (omega (arith, fits.held)))

  module _ (i : ℕ) (h : i < length v.permissions) where
    abbrev permission : Permission
    permission = get_or v.permissions i no_permission

    abbrev permission_place : Counts → ℕ
    permission_place m = permissions_from m + i * permission_size

    permission_read : AllRead s (permission_place n) 0 (permission_fields permission)
    permission_read =
        fields_read s (permission_fields permission) (permission_place n) 0
        (rw (add-zero (permission_place n))
        (record_stands permission_bytes permission_size (λ x. refl) s v.permissions no_permission
        (permissions_from n) i
        (stands_first (part permission_bytes v.permissions) rules permissions_stand) h))

    pub permission_back : permission_at s i ≡ permission
    permission_back =
        let r = rw (add-zero (permission_place n)) at permission_read in
        ap (λ (m : Counts). permission_read_at s (permission_place m)) counts_back
        ∙ (λ j. record { role = r.0 j; action = r.1.0 j; object = r.1.1.0 j })

  module _ (i : ℕ) (h : i < length v.rules) where
    abbrev rule : Rule
    rule = get_or v.rules i no_rule

    abbrev rule_place : Counts → ℕ
    rule_place m = rules_from m + i * rule_size

    rule_read : AllRead s (rule_place n) 0 (rule_fields rule)
    rule_read =
        fields_read s (rule_fields rule) (rule_place n) 0
        (rw (add-zero (rule_place n))
        (record_stands rule_bytes rule_size (λ x. refl) s v.rules no_rule (rules_from n) i
        (stands_first (part rule_bytes v.rules) duties rules_stand) h))

    pub rule_back : rule_at s i ≡ rule
    rule_back =
        let r = rw (add-zero (rule_place n)) at rule_read in
        ap (λ (m : Counts). rule_read_at s (rule_place m)) counts_back
        ∙ (λ j.
        record {
          kind = r.0 j;
          actor = r.1.0 j;
          role = r.1.1.0 j;
          wanted = r.1.1.1.1.0 j;
          barred = r.1.1.1.1.1.0 j;
        })

    pub spare_back : rule_spare s i ≡ 0
    spare_back = ap (λ (m : Counts). two s (rule_place m + 6)) counts_back ∙ rule_read.1.1.1.0

  module _ (i : ℕ) (h : i < length v.duties) where
    abbrev duty : Duty
    duty = get_or v.duties i no_duty

    abbrev duty_place : Counts → ℕ
    duty_place m = duties_from m + i * duty_size

    duty_read : AllRead s (duty_place n) 0 (duty_fields duty)
    duty_read =
        fields_read s (duty_fields duty) (duty_place n) 0
        (rw (add-zero (duty_place n))
        (record_stands duty_bytes duty_size (λ x. refl) s v.duties no_duty (duties_from n) i
        (stands_first (part duty_bytes v.duties) [] duties_stand) h))

    pub duty_back : what_fits v.users v.roles duty.what ≡ true → duty_at s i ≡ duty
    duty_back f =
        let r = rw (add-zero (duty_place n)) at duty_read in
        ap (λ (m : Counts). duty_read_at s (duty_place m)) counts_back
        ∙ (λ j.
        record {
          serial = record { 0 = r.0 j };
          doer = r.1.0 j;
          what = what_of (r.1.1.0 j) (r.1.1.1.0 j) (r.1.1.1.1.0 j);
          start = r.1.1.1.1.1.0 j;
          end = r.1.1.1.1.1.1.0 j;
        })
        ∙ (λ j.
        record {
          serial = duty.serial;
          doer = duty.doer;
          what = what_back v.users v.roles duty.what f j;
          start = duty.start;
          end = duty.end;
        })

    pub second_back : second_fits_at s i ≡ true
    second_back =
        ap (λ (m : Counts). second_fits (two s (duty_place m + 6)) (two s (duty_place m + 10))) counts_back
        ∙ (λ j. second_fits (duty_read.1.1.0 j) (duty_read.1.1.1.1.0 j))
        ∙ second_fits_lem duty.what
