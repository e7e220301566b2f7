-- The first fault of a file is the first of its parts' first faults, and a part's the first of its records'
-- faults: so the loop over the parts and the loop over their records go by the same laws. What the first
-- fault can be, and what holds of a file without one.
use mathlib.Core.Path.{◌≡◌, refl, sym, ◌∙◌}
use mathlib.Core.Logic.{inl, inr}
use mathlib.Core.Bool.{Bool, true, false, ◌&&◌, ◌||◌}
use mathlib.Core.List.{List, [], ◌∷◌, ◌++◌, map, map-append}
use Prim.Native.Nat.{ℕ, zero, suc, ◌+◌, ◌<◌}
use native.Mathlib.Decide.{dec_lt}
use native.Mathlib.Numerals.{add-one}
use native.Mathlib.Omega.{arith}
use lib.Dec.{eqb}
use lib.ListN.{get_or}
use borrow.Author.Tests.{eqb-true, eqb-false}
use Rattle.orders.proofs.Tests.{by_test}
use Rattle.board.specs.Answers.{check, Answers}
use Rattle.board.specs.Good as g
use Rattle.board.specs.Numbers as answer
use Rattle.board.specs.Permitted.{below}
use Rattle.board.specs.Windows.{window_fits}
use Rattle.layout.specs.Layout.{counts_of, next_of}
use Rattle.file.specs.declared.parts.Part.{Part}
use Rattle.file.specs.declared.parts.Part.TheVariants.{Holdings, Permissions, Rules, Duties}
use Rattle.file.specs.Parts.{size_of, fault_at}
use Rattle.file.specs.Reads.{record_checks}
use Rattle.file.specs.Records.{holding_at, permission_at, rule_at, rule_spare, duty_at}
use Rattle.file.specs.Records.{second_fits_at, is_above}
use Rattle.file.specs.Records.{holding_fault, permission_fault, rule_fault, duty_fault}
use Rattle.file.specs.Records.{fault_of, fault_numbers, faults, or_later, first_one, first_fault}

-- ---- the first fault among numbered ones

-- the first of those below n; 0 where none is a fault
abbrev pub first_in : (ℕ → ℕ) → ℕ → ℕ
first_in fault zero = 0
first_in fault (suc n) = or_later (first_in fault n) (fault n)

or_later_assoc : (a b c : ℕ) → or_later (or_later a b) c ≡ or_later a (or_later b c)
or_later_assoc zero b c = refl
or_later_assoc (suc a) b c = refl

or_later_none : (a : ℕ) → or_later a 0 ≡ a
or_later_none zero = refl
or_later_none (suc a) = refl

-- a fault that is one is the first
or_later_first : (a b : ℕ) → (a ≡ 0 → ⊥) → or_later a b ≡ a
or_later_first zero b h = absurd (h refl)
or_later_first (suc a) b h = refl

or_later_zero : (a b : ℕ) → or_later a b ≡ 0 → (a ≡ 0) × (b ≡ 0)
or_later_zero zero b e = (refl, e)
or_later_zero (suc a) b e = absurd (omega arith)

or_later_keeps : (P : ℕ → Type 0) (a b : ℕ) → P a → P b → P (or_later a b)
or_later_keeps P zero b p q = q
or_later_keeps P (suc a) b p q = p

first_append : (a b : List ℕ) → first_one (a ++ b) ≡ or_later (first_one a) (first_one b)
first_append [] b = refl
first_append (x ∷ a) b = rw (first_append a b) (sym (or_later_assoc x (first_one a) (first_one b)))

module _ (fault : ℕ → ℕ) where
  first_below : (n : ℕ) → first_one (map fault (below n)) ≡ first_in fault n
  first_below zero = refl
  first_below (suc n) =
      rw (
        map-append fault (below n) (n ∷ []),
        first_append (map fault (below n)) (fault n ∷ []),
        first_below n,
        or_later_none (fault n),
      )

  -- a turn of a loop finds none
  pub none_next : (i : ℕ) → first_in fault i ≡ 0 → fault i ≡ 0 → first_in fault (i + 1) ≡ 0
  none_next i e f = rw (add-one i, e, f)

  -- a turn of a loop finds one: it is the first
  pub first_is :
      (n i : ℕ) → i < n → first_in fault i ≡ 0 → (fault i ≡ 0 → ⊥) → first_in fault n ≡ fault i
  first_is zero i h e f = absurd (omega arith)
  first_is (suc n) i h e f =
      elim (dec_lt i n) [
        | yes l ↦ rw (first_is n i l e f) (or_later_first (fault i) (fault n) f)
        | no l ↦ last (omega arith)
      ]
    where
      last : i ≡ n → or_later (first_in fault n) (fault n) ≡ fault i
      last q = rw (← q, e)

  none_below : (n i : ℕ) → first_in fault n ≡ 0 → i < n → fault i ≡ 0
  none_below zero i e h = absurd (omega arith)
  none_below (suc n) i e h =
      let z = or_later_zero (first_in fault n) (fault n) e in
      elim (dec_lt i n) [
        | yes l ↦ none_below n i z.0 l
        | no l ↦ (let q : i ≡ n = omega arith in rw q z.1)
      ]

  all_none : (n : ℕ) → ((i : ℕ) → i < n → fault i ≡ 0) → first_in fault n ≡ 0
  all_none zero none = refl
  all_none (suc n) none = rw (all_none n (λ i h. none i (omega arith)), none n (omega arith))

  first_keeps : (P : ℕ → Type 0) → P 0 → ((i : ℕ) → P (fault i)) → (n : ℕ) → P (first_in fault n)
  first_keeps P z each zero = z
  first_keeps P z each (suc n) =
      or_later_keeps P (first_in fault n) (fault n) (first_keeps P z each n) (each n)

-- ---- the parts

-- the parts in the order of the file, by number
abbrev pub parts : List Part
parts = Holdings ∷ Permissions ∷ Rules ∷ Duties ∷ []

abbrev pub part_at : ℕ → Part
part_at k = get_or parts k Holdings

-- the first fault of a part
abbrev pub part_fault : List ℕ → Part → ℕ
part_fault s part = first_in (fault_at s part) (size_of (counts_of s) part)

-- the first fault of the parts so far
abbrev pub fault_before : List ℕ → ℕ → ℕ
fault_before s k = first_in (λ k. part_fault s (part_at k)) k

pub first_by_parts : (s : List ℕ) → first_fault s ≡ fault_before s 4
unfolding faults
first_by_parts s = simp (first_append, first_below, or_later_assoc)

-- ---- what the first fault can be

-- a number that is among these, or 0, answers the checks whether it is one of them
abbrev is_one_of : List ℕ → ℕ → Bool
is_one_of [] fault = eqb fault answer.done
is_one_of (number ∷ rest) fault = eqb fault number || is_one_of rest fault

one_answers :
    (numbers : List ℕ) (fault : ℕ) → is_one_of numbers fault ≡ true
    → Answers (map (λ number. check number (fault ≡ number)) numbers) fault
one_answers [] fault t = eqb-true fault answer.done t
one_answers (number ∷ rest) fault t =
    by_test (eqb fault number)
    (λ is. let e = eqb-true fault number is in inl (e, e))
    (λ other. inr (eqb-false fault number other, one_answers rest fault (rw other at t)))

abbrev Known : ℕ → Type 0
Known fault = is_one_of fault_numbers fault ≡ true

fault_known : (fits window above : Bool) → Known (fault_of fits window above)
fault_known false window above = refl
fault_known true false above = refl
fault_known true true false = refl
fault_known true true true = refl

module _ (s : List ℕ) where
  record_known : (part : Part) (i : ℕ) → Known (fault_at s part i)
  record_known Holdings i = fault_known (g.set_fits (counts_of s).roles (holding_at s i)) true true
  record_known Permissions i =
      fault_known (g.permission_fits (counts_of s).roles (permission_at s i)) true
      (is_above g.permission_below (permission_at s) i)
  record_known Rules i =
      fault_known (g.rule_fits (counts_of s).roles (rule_at s i) && eqb (rule_spare s i) 0) true
      (is_above g.rule_below (rule_at s) i)
  record_known Duties i =
      let n = counts_of s in
      fault_known (g.duty_fits n.users n.roles (next_of s) (duty_at s i) && second_fits_at s i)
      (window_fits (duty_at s i)) (is_above g.duty_below (duty_at s) i)

  part_known : (part : Part) → Known (part_fault s part)
  part_known part = first_keeps (fault_at s part) Known refl (record_known part) (size_of (counts_of s) part)

  first_known : Known (first_fault s)
  first_known =
      rw (first_by_parts s)
      (first_keeps (λ k. part_fault s (part_at k)) Known refl (λ k. part_known (part_at k)) 4)

  pub fault_answers : Answers (record_checks s) (first_fault s)
  fault_answers = one_answers fault_numbers (first_fault s) first_known

-- ---- a file without a fault

pub record NoFault (s : List ℕ) : Type 0 where
  pub holdings : (i : ℕ) → i < (counts_of s).users → holding_fault s i ≡ 0
  pub permissions : (i : ℕ) → i < (counts_of s).permissions → permission_fault s i ≡ 0
  pub rules : (i : ℕ) → i < (counts_of s).rules → rule_fault s i ≡ 0
  pub duties : (i : ℕ) → i < (counts_of s).duties → duty_fault s i ≡ 0

pub no_fault : (s : List ℕ) → first_fault s ≡ 0 → NoFault s
no_fault s e =
    record {
      holdings = none 0 (omega arith);
      permissions = none 1 (omega arith);
      rules = none 2 (omega arith);
      duties = none 3 (omega arith);
    }
  where
    none :
        (k : ℕ) → k < 4 → (i : ℕ) → i < size_of (counts_of s) (part_at k) → fault_at s (part_at k) i ≡ 0
    none k h i inside =
        none_below (fault_at s (part_at k)) (size_of (counts_of s) (part_at k)) i
        (none_below (λ k. part_fault s (part_at k)) 4 k (sym (first_by_parts s) ∙ e) h) inside

pub faultless_first : (s : List ℕ) → NoFault s → first_fault s ≡ 0
faultless_first s none =
    first_by_parts s ∙ all_none (λ k. part_fault s (part_at k)) 4 (λ k h. part_none (part_at k))
  where
    part_none : (part : Part) → part_fault s part ≡ 0
    part_none Holdings = all_none (fault_at s Holdings) (counts_of s).users none.holdings
    part_none Permissions = all_none (fault_at s Permissions) (counts_of s).permissions none.permissions
    part_none Rules = all_none (fault_at s Rules) (counts_of s).rules none.rules
    part_none Duties = all_none (fault_at s Duties) (counts_of s).duties none.duties
