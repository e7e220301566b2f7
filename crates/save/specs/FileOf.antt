-- A board as the bytes of a version 1 file: document 01, section Board file. The header, then the four parts
-- with no gaps, each the bytes of its records.
use Rattle.std.specs.Prelude.{List, [], ◌∷◌, ℕ, length}
use Rattle.std.specs.List.{flat_map}
use Rattle.board.specs.declared.Counts.{Counts}
use Rattle.board.specs.declared.Duty.{Duty}
use Rattle.board.specs.declared.Permission.{Permission}
use Rattle.board.specs.declared.Rule.{Rule}
use Rattle.board.specs.Doing.{action_of, first_of, second_of}
use Rattle.board.specs.View.{View}
use Rattle.layout.specs.Bytes.{two_bytes, four_bytes, together}
use Rattle.layout.specs.Layout.{version, holdings_from, permissions_from, rules_from, duties_from, total_of}

-- ---- the header

-- how many there are of each
abbrev pub counts_said : View → Counts
counts_said v =
    record {
      users = v.users;
      roles = v.roles;
      permissions = length v.permissions;
      rules = length v.rules;
      duties = length v.duties;
    }

-- version and counts
abbrev pub counts_bytes : Counts → List ℕ
counts_bytes n =
    together
    (two_bytes version
    ∷ two_bytes n.users
    ∷ two_bytes n.roles
    ∷ two_bytes n.permissions
    ∷ two_bytes n.rules
    ∷ two_bytes n.duties
    ∷ [])

-- the offsets, where each part starts, and the total length
abbrev pub offsets_bytes : Counts → List ℕ
offsets_bytes n =
    together
    (four_bytes holdings_from
    ∷ four_bytes (permissions_from n)
    ∷ four_bytes (rules_from n)
    ∷ four_bytes (duties_from n)
    ∷ four_bytes (total_of n)
    ∷ [])

abbrev pub header_bytes : Counts → ℕ → ℕ → List ℕ
header_bytes n clock next =
    together (counts_bytes n ∷ four_bytes clock ∷ four_bytes next ∷ offsets_bytes n ∷ [])

-- ---- one record: a holding is the four bytes of its set

abbrev pub permission_bytes : Permission → List ℕ
permission_bytes p = together (two_bytes p.role ∷ two_bytes p.action ∷ two_bytes p.object ∷ [])

abbrev pub rule_bytes : Rule → List ℕ
rule_bytes r =
    together
    (two_bytes r.kind
    ∷ two_bytes r.actor
    ∷ two_bytes r.role
    ∷ two_bytes 0
    ∷ four_bytes r.wanted
    ∷ four_bytes r.barred
    ∷ [])

abbrev pub duty_bytes : Duty → List ℕ
duty_bytes d =
    together
    (four_bytes d.serial.0
    ∷ two_bytes d.doer
    ∷ two_bytes (action_of d.what)
    ∷ two_bytes (first_of d.what)
    ∷ two_bytes (second_of d.what)
    ∷ four_bytes d.start
    ∷ four_bytes d.end
    ∷ [])

-- ---- the whole

-- the bytes of a part's records, in turn
abbrev pub part : {A : Type 0} → (A → List ℕ) → List A → List ℕ
part bytes records = flat_map bytes records

unfoldable pub file_of : View → List ℕ
file_of v =
    together
    (header_bytes (counts_said v) v.clock v.next
    ∷ part four_bytes v.holdings
    ∷ part permission_bytes v.permissions
    ∷ part rule_bytes v.rules
    ∷ part duty_bytes v.duties
    ∷ [])
