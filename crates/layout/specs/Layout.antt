-- Where the parts of a board file stand: a header of 40 bytes, then holdings, permissions, rules and duties
-- with no gaps.
use Rattle.std.specs.Prelude.{Bool, ◌&&◌, List, ℕ, ◌+◌, ◌*◌, eqb, length}
use Rattle.board.specs.declared.Counts.{Counts}
use Rattle.board.specs.Limits.{max_users, max_roles, max_permissions, max_rules, max_duties}
use Rattle.layout.specs.Bytes.{two, four}

-- the version of the file
abbrev pub version : ℕ
version = 1

-- the counts in the header
abbrev pub counts_of : List ℕ → Counts
counts_of s =
    record { users = two s 2; roles = two s 4; permissions = two s 6; rules = two s 8; duties = two s 10 }

abbrev pub clock_of : List ℕ → ℕ
clock_of s = four s 12

abbrev pub next_of : List ℕ → ℕ
next_of s = four s 16

-- the total length that the header states
abbrev pub stated_total : List ℕ → ℕ
stated_total s = four s 36

-- how many bytes the header and each kind of record take
abbrev pub header_size : ℕ
header_size = 40

abbrev pub holding_size : ℕ
holding_size = 4

abbrev pub permission_size : ℕ
permission_size = 6

abbrev pub rule_size : ℕ
rule_size = 16

abbrev pub duty_size : ℕ
duty_size = 20

-- where each part starts, and where the last one ends
abbrev pub holdings_from : ℕ
holdings_from = header_size

abbrev pub permissions_from : Counts → ℕ
permissions_from n = holdings_from + n.users * holding_size

abbrev pub rules_from : Counts → ℕ
rules_from n = permissions_from n + n.permissions * permission_size

abbrev pub duties_from : Counts → ℕ
duties_from n = rules_from n + n.rules * rule_size

abbrev pub total_of : Counts → ℕ
total_of n = duties_from n + n.duties * duty_size

-- the longest file: every count at its limit
abbrev pub longest : ℕ
longest =
    total_of
    (record {
      users = max_users;
      roles = max_roles;
      permissions = max_permissions;
      rules = max_rules;
      duties = max_duties;
    })

-- the header's offsets and total are as laid out, and the total is the slice's length
abbrev pub laid_out : List ℕ → Bool
laid_out s =
    eqb (four s 20) holdings_from
    && (eqb (four s 24) (permissions_from (counts_of s))
    && (eqb (four s 28) (rules_from (counts_of s))
    && (eqb (four s 32) (duties_from (counts_of s))
    && (eqb (stated_total s) (total_of (counts_of s)) && eqb (stated_total s) (length s)))))
