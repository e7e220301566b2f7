-- Document 01's figures, by computation: the longest file has 6,952 bytes, and case 8 as a file has its parts
-- at 40, 48, 54 and 86 and a total of 146.
use mathlib.Core.Path.{◌≡◌, refl}
use Rattle.board.specs.declared.Counts.{Counts}
use Rattle.layout.specs.Layout.{holdings_from, permissions_from, rules_from, duties_from, total_of, longest}

pub longest_is : longest ≡ 6952
longest_is = refl

-- two users, two roles, a permission, two rules, three duties
abbrev case8 : Counts
case8 = record { users = 2; roles = 2; permissions = 1; rules = 2; duties = 3 }

pub case8_is :
    (holdings_from ≡ 40) × (permissions_from case8 ≡ 48) × (rules_from case8 ≡ 54) × (duties_from case8 ≡ 86)
    × (total_of case8 ≡ 146)
case8_is = (refl, refl, refl, refl, refl)
