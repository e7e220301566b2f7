-- The earliest end of a duty that mends what another spoils, in the numbers of those that set a holding.
use Rattle.std.specs.Prelude.{Bool, ◌&&◌, cond, List, ℕ, eqb, ltb}
use Rattle.std.specs.Int.Bits.{bit_and, bit_or}
use Rattle.std.specs.List.{fold}
use Rattle.troubles.specs.declared.setting.Setter.{Setter}
use Rattle.troubles.specs.Setting.{has_role}
use Rattle.quick_criterion.specs.Mends.{last_minute}

-- x is wholly before g, and g undoes what x sets
abbrev pub mends : Setter → Setter → Bool
mends x g =
    ltb x.end g.start
    && (eqb g.user x.user && has_role (bit_or (bit_and g.grants x.revokes) (bit_and g.revokes x.grants)))

-- the earlier of `best` and the end of g, if g mends what x spoils
abbrev pub earlier_mend : Setter → ℕ → Setter → ℕ
earlier_mend x best g = cond (mends x g && ltb g.end best) g.end best

-- the earliest end of one of the setters that mends what x spoils
abbrev pub mend_of : List Setter → Setter → ℕ
mend_of setters x = fold (earlier_mend x) last_minute setters
