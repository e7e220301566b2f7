-- The numbers of each record and of the header, in the order in which they stand.
use mathlib.Core.List.{List, [], ◌∷◌}
use Rattle.board.specs.declared.Counts.{Counts}
use Rattle.board.specs.declared.Duty.{Duty}
use Rattle.board.specs.declared.Permission.{Permission}
use Rattle.board.specs.declared.Rule.{Rule}
use Rattle.board.specs.Doing.{action_of, first_of, second_of}
use Rattle.layout.specs.Layout.{version, holdings_from, permissions_from, rules_from, duties_from, total_of}
use Rattle.read_back.proofs.Fields.{Field, short, long}

abbrev pub permission_fields : Permission → List Field
permission_fields p = short p.role ∷ short p.action ∷ short p.object ∷ []

abbrev pub rule_fields : Rule → List Field
rule_fields r =
    short r.kind ∷ short r.actor ∷ short r.role ∷ short 0 ∷ long r.wanted ∷ long r.barred ∷ []

abbrev pub duty_fields : Duty → List Field
duty_fields d =
    long d.serial.0
    ∷ short d.doer
    ∷ short (action_of d.what)
    ∷ short (first_of d.what)
    ∷ short (second_of d.what)
    ∷ long d.start
    ∷ long d.end
    ∷ []

abbrev pub counts_fields : Counts → List Field
counts_fields n =
    short version
    ∷ short n.users
    ∷ short n.roles
    ∷ short n.permissions
    ∷ short n.rules
    ∷ short n.duties
    ∷ []

abbrev pub offsets_fields : Counts → List Field
offsets_fields n =
    long holdings_from
    ∷ long (permissions_from n)
    ∷ long (rules_from n)
    ∷ long (duties_from n)
    ∷ long (total_of n)
    ∷ []
