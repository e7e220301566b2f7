-- The kinds of records by their numbers: docs/REPLAY.md, section What is read.
use Rattle.std.specs.Prelude.{◌≡◌, ℕ, Result, MatchResult}
use Rattle.session.specs.declared.kind.Kind.{Kind}
use Rattle.session.specs.declared.kind.Kind.TheVariants.{Admit, Act, Do, Withdraw, Check, Save, Walk, Poke}
use Rattle.session.specs.declared.kind.UnknownKind.{UnknownKind}

abbrev pub number_of : Kind → ℕ
number_of Admit = 0
number_of Act = 1
number_of Do = 2
number_of Withdraw = 3
number_of Check = 4
number_of Save = 5
number_of Walk = 6
number_of Poke = 9

-- the kind with this number, or an error with a number that no kind has
abbrev pub Decodes : ℕ → Result Kind UnknownKind → Type 0
Decodes number r =
    MatchResult r (λ kind. number_of kind ≡ number)
    (λ e. (e.0 ≡ number) × ((kind : Kind) → number_of kind ≡ number → ⊥))
