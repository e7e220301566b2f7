-- Saving what was read gives the bytes back: in a file that reading accepts, each number of the board that it
-- says stands at its place, and nothing else is in the file.
use mathlib.Core.Path.{◌≡◌, refl, sym, ◌∙◌, ap, subst}
use mathlib.Core.Bool.{true, ◌&&◌}
use mathlib.Core.List.{List, [], ◌++◌}
use Prim.Native.Nat.{ℕ, ◌+◌, ◌*◌, ◌<◌}
use native.Mathlib.Nat.{add-zero}
use native.Mathlib.Omega.{arith}
use lib.Dec.{eqb}
use lib.ListN.{length}
use borrow.Author.Tests.{eqb-true, eqb-false}
use Rattle.orders.proofs.Tests.{by_test, and_left, and_right, is_true}
use Rattle.board.specs.declared.Counts.{Counts}
use Rattle.board.specs.Answers.{NoneApplies}
use Rattle.board.specs.Doing.{what_of, action_of, first_of, second_of, second_fits}
use Rattle.board.specs.Good.{rule_fits, duty_fits, rule_below, duty_below}
use Rattle.board.specs.View.{View, view}
use Rattle.board.specs.Windows.{window_fits}
use Rattle.board.proofs.SayingLaws.{ViewFits, view_fits}
use Rattle.layout.specs.Bytes.{AreBytes, two, four, four_bytes}
use Rattle.layout.specs.Layout.{version, counts_of, clock_of, next_of, holdings_from, permissions_from, rules_from}
use Rattle.layout.specs.Layout.{duties_from, total_of, laid_out, holding_size, permission_size, rule_size, duty_size}
use Rattle.file.specs.Records.{holding_at, permission_at, rule_at, rule_spare, duty_from, duty_at, second_fits_at}
use Rattle.file.specs.Records.{is_above}
use Rattle.file.specs.Reads.{read_checks, board_of}
use Rattle.file.proofs.Accepted.{view_of, view_of_lem, accepted_header, accepted_faultless, accepted_good}
use Rattle.file.proofs.Accepted.{accepted_sized, faultless}
use Rattle.file.proofs.Filled.{records_length}
use Rattle.save.specs.FileOf.{counts_said, counts_bytes, offsets_bytes, header_bytes, permission_bytes, rule_bytes}
use Rattle.save.specs.FileOf.{duty_bytes, part, file_of}
use Rattle.save.proofs.FileLaws.{file_length}
use Rattle.read_back.proofs.Stands.{Stands, stands_both, stands_nothing, whole_is}
use Rattle.read_back.proofs.Fields.{AllRead, four_stands, fields_stand}
use Rattle.read_back.proofs.Parts.{part_stands, numbered_length}
use Rattle.read_back.proofs.Records.{permission_fields, rule_fields, duty_fields}
use Rattle.read_back.proofs.Records.{counts_fields, offsets_fields}

-- ---- what is to be done, read from numbers and told by them again

pub record ToldBy (action first second : ℕ) : Type 0 where
  pub action_back : action_of (what_of action first second) ≡ action
  pub first_back : first_of (what_of action first second) ≡ first
  pub second_back : second_of (what_of action first second) ≡ second

told_back : (action first second : ℕ) → second_fits action second ≡ true → ToldBy action first second
told_back action first second fits =
    by_test (eqb action 0)
    (λ e.
    let is = eqb-true action 0 e in
    record { action_back = rw e (sym is); first_back = rw e refl; second_back = rw e refl })
    (λ other.
    by_test (eqb action 1)
    (λ e.
    let is = eqb-true action 1 e in
    record {
      action_back = rw (other, e) (sym is);
      first_back = rw (other, e) refl;
      second_back = rw (other, e) refl;
    })
    (λ none.
    let empty : second ≡ 0 = eqb-true second 0 (rw (other, none) at fits) in
    record {
      action_back = rw (other, none) refl;
      first_back = rw (other, none) refl;
      second_back = rw (other, none) (sym empty);
    }))

offsets_laid :
    (s : List ℕ) → laid_out s ≡ true
    → (four s 20 ≡ holdings_from)
    × (four s 24 ≡ permissions_from (counts_of s))
    × (four s 28 ≡ rules_from (counts_of s))
    × (four s 32 ≡ duties_from (counts_of s))
    × (four s 36 ≡ total_of (counts_of s))
offsets_laid s e = search (and_left, and_right, eqb-true) depth 8

-- ---- a file that reading accepts

module _ (s : List ℕ) (bytes : AreBytes s) (none : NoneApplies (read_checks s)) where
  abbrev n : Counts
  n = counts_of s

  abbrev v : View
  v = view_of s

  total : total_of n ≡ length s
  total = (accepted_header s none).total

  version_is : two s 0 ≡ version
  version_is =
      by_test (eqb (two s 0) version) (λ e. eqb-true (two s 0) version e)
      (λ e. absurd (none.1.0 (eqb-false (two s 0) version e)))

  laid : laid_out s ≡ true
  laid = is_true (laid_out s) none.1.1.1.0

  offsets : AllRead s 20 0 (offsets_fields n)
  offsets = let t = offsets_laid s laid in (t.0, (t.1, (t.2, (t.3, (t.4, tt)))))

  header_stands : Stands s 0 (header_bytes n (clock_of s) (next_of s))
  header_stands =
      stands_both (counts_bytes n) _ refl
      (fields_stand s bytes (counts_fields n) 0 0 (omega (arith, total))
      (version_is, (refl, (refl, (refl, (refl, (refl, tt)))))))
      (stands_both (four_bytes (clock_of s)) _ refl
      (four_stands s bytes 12 (clock_of s) (omega (arith, total)) refl)
      (stands_both (four_bytes (next_of s)) _ refl
      (four_stands s bytes 16 (next_of s) (omega (arith, total)) refl)
      (stands_both (offsets_bytes n) [] refl
      (fields_stand s bytes (offsets_fields n) 20 0 (omega (arith, total)) offsets) (stands_nothing 40))))

  -- ---- the parts

  holdings_stand : Stands s holdings_from (part four_bytes v.holdings)
  holdings_stand =
      part_stands four_bytes holding_size (λ x. refl) s (holding_at s) holdings_from n.users
      (λ i h.
      four_stands s bytes (holdings_from + i * holding_size) (holding_at s i) (omega (arith, total)) refl)

  permission_stands :
      (i : ℕ) → i < n.permissions
      → Stands s (permissions_from n + i * permission_size) (permission_bytes (permission_at s i))
  permission_stands i h =
      let place = permissions_from n + i * permission_size in
      let same = add-zero place in
      rw same at
      (fields_stand s bytes (permission_fields (permission_at s i)) place 0 (omega (arith, total))
      (rw same refl, (refl, (refl, tt))))

  spare : (i : ℕ) → i < n.rules → rule_spare s i ≡ 0
  spare i h =
      faultless (rule_fits n.roles (rule_at s i) && eqb (rule_spare s i) 0) true
      (is_above rule_below (rule_at s) i) ((accepted_faultless s none).rules i h)
      (λ f w a. eqb-true (rule_spare s i) 0 (and_right (rule_fits n.roles (rule_at s i)) _ f))

  rule_stands : (i : ℕ) → i < n.rules → Stands s (rules_from n + i * rule_size) (rule_bytes (rule_at s i))
  rule_stands i h =
      let place = rules_from n + i * rule_size in
      let same = add-zero place in
      rw same at
      (fields_stand s bytes (rule_fields (rule_at s i)) place 0 (omega (arith, total))
      (rw same refl, (refl, (refl, (spare i h, (refl, (refl, tt)))))))

  told :
      (i : ℕ) → i < n.duties
      → ToldBy (two s (duty_from s i + 6)) (two s (duty_from s i + 8)) (two s (duty_from s i + 10))
  told i h =
      faultless (duty_fits n.users n.roles (next_of s) (duty_at s i) && second_fits_at s i)
      (window_fits (duty_at s i)) (is_above duty_below (duty_at s) i) ((accepted_faultless s none).duties i h)
      (λ f w a.
      told_back (two s (duty_from s i + 6)) (two s (duty_from s i + 8)) (two s (duty_from s i + 10))
      (and_right (duty_fits n.users n.roles (next_of s) (duty_at s i)) _ f))

  duty_stands : (i : ℕ) → i < n.duties → Stands s (duties_from n + i * duty_size) (duty_bytes (duty_at s i))
  duty_stands i h =
      let place = duties_from n + i * duty_size in
      let same = add-zero place in
      let t = told i h in
      rw same at
      (fields_stand s bytes (duty_fields (duty_at s i)) place 0 (omega (arith, total)) (
        rw same refl,
        (
          refl,
          (sym t.action_back, (sym t.first_back, (sym t.second_back, (refl, (refl, tt))))),
        ),
      ))

  -- ---- the whole

  counts_said_lem : counts_said v ≡ n
  counts_said_lem =
      λ j.
      record {
        users = n.users;
        roles = n.roles;
        permissions = records_length (permission_at s) n.permissions j;
        rules = records_length (rule_at s) n.rules j;
        duties = records_length (duty_at s) n.duties j;
      }

  parts_stand :
      Stands s holdings_from
      (part four_bytes v.holdings
      ++ (part permission_bytes v.permissions
      ++ (part rule_bytes v.rules ++ (part duty_bytes v.duties ++ []))))
  parts_stand =
      stands_both (part four_bytes v.holdings) _
      (omega (arith, numbered_length four_bytes holding_size (λ x. refl) (holding_at s) n.users))
      holdings_stand
      (stands_both (part permission_bytes v.permissions) _
      (omega (
        arith,
        numbered_length permission_bytes permission_size (λ x. refl) (permission_at s) n.permissions,
      ))
      (part_stands permission_bytes permission_size (λ x. refl) s (permission_at s) (permissions_from n)
      n.permissions permission_stands)
      (stands_both (part rule_bytes v.rules) _
      (omega (arith, numbered_length rule_bytes rule_size (λ x. refl) (rule_at s) n.rules))
      (part_stands rule_bytes rule_size (λ x. refl) s (rule_at s) (rules_from n) n.rules rule_stands)
      (stands_both (part duty_bytes v.duties) [] refl
      (part_stands duty_bytes duty_size (λ x. refl) s (duty_at s) (duties_from n) n.duties duty_stands)
      (stands_nothing _))))

  file_stands : Stands s 0 (file_of v)
  unfolding file_of
  file_stands =
      subst (λ (m : Counts). Stands s 0 (header_bytes m (clock_of s) (next_of s) ++ rest)) (sym counts_said_lem)
      (stands_both (header_bytes n (clock_of s) (next_of s)) rest refl header_stands parts_stand)
    where
      rest : List ℕ
      rest =
          part four_bytes v.holdings
          ++ (part permission_bytes v.permissions
          ++ (part rule_bytes v.rules ++ (part duty_bytes v.duties ++ [])))

  fits : ViewFits v
  fits = subst ViewFits (view_of_lem s) (view_fits (board_of s) (accepted_sized s none) (accepted_good s none))

  -- saving what was read gives the bytes back
  pub bytes_back : file_of (view (board_of s)) ≡ s
  bytes_back =
      ap file_of (view_of_lem s)
      ∙ sym (whole_is s (file_of v) file_stands
      (sym (file_length v fits.held ∙ ap total_of counts_said_lem ∙ total)))
