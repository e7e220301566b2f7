-- A duty of the pool weighed with the table of mends, or with none: what is said of those that set a holding
-- holds of the whole pool.
use mathlib.Core.Path.{◌≡◌, refl, sym, ap, ◌∙◌}
use mathlib.Core.Bool.{Bool, true, false}
use mathlib.Core.List.{List, [], ◌∷◌, map}
use Rattle.std.specs.Bool.{⊤}
use Rattle.std.specs.Option.{is_some, unwrap_or, option_copied}
use Rattle.std.specs.Prelude.{Option, None, Some, Ok, Err}
use Prim.Native.Nat.{ℕ, zero, suc, ◌≤◌}
use native.Mathlib.Omega.{arith}
use denote.Ref.{Bor}
use lib.ListN.{length, take, get_or, replicate}
use Rattle.orders.specs.Lists.{Mem, any, keep}
use Rattle.orders.proofs.Lists.{keep_mem}
use Rattle.orders.proofs.Tests.{clash, and_yes, or_false}
use Rattle.asks.specs.declared.Ask.{Ask}
use Rattle.board.specs.declared.Duty.{Duty}
use Rattle.board.specs.declared.Serial.{Serial}
use Rattle.board.specs.Limits.{max_duties}
use Rattle.troubles.specs.declared.pairs.Reach.{Reach}
use Rattle.troubles.specs.declared.setting.Setter.{Setter}
use Rattle.troubles.specs.Mending.{mend_of}
use Rattle.troubles.specs.Reaching.{reach_of, met_with}
use Rattle.troubles.specs.Setting.{sets_one, setter_of}
use Rattle.troubles.specs.Weighing.{Weighed}
use Rattle.quick_criterion.specs.Mends.{last_minute}
use Rattle.quick_criterion.specs.Tests.{can_be_met, spoils, makes_wrong}
use Rattle.quick_criterion.proofs.Mending.{first_none}
use Rattle.troubles.proofs.AllMends.{mend_in, mends_are, many}
use Rattle.troubles.proofs.Idle.{mends_kept, wrong_kept}
use Rattle.troubles.proofs.Reached.{reach_kept}

-- the duties of the pool that set a holding
abbrev pub setters_in : List Duty → List Duty
setters_in pool = keep sets_one pool

-- the table of mends, where it is made
abbrev pub Table : List Setter → Option (List ℕ) → Type 0
Table setters None = ⊤
Table setters (Some table) = take (length setters) table ≡ map (mend_of setters) setters

-- what is read for it
pub table_is :
    {table : Bor (List ℕ)} (z : Bor (List ℕ)) (mends : Option (List ℕ)) (lent : Option (Bor (List ℕ))) → option_copied lent ≡ mends
    → table ≡ unwrap_or lent z → table.now ≡ unwrap_or mends z.now
table_is z mends None e is = rw (sym e) (ap (λ (b : Bor (List ℕ)). b.now) is)
table_is z mends (Some t) e is = rw (sym e) (ap (λ (b : Bor (List ℕ)). b.now) is)

-- where it is not made nothing mends
nothing_mends :
    (l : List Duty) (n : ℕ) → length l ≤ n → take (length l) (replicate n last_minute) ≡ map (mend_in []) l
nothing_mends [] n h = refl
nothing_mends (y ∷ l) zero h = absurd (omega arith)
nothing_mends (y ∷ l) (suc n) h = rw (first_none y last_minute, nothing_mends l n (omega arith))

-- what is mended by a duty of the pool is mended by one that sets
wrong_in_lem : (pool : List Duty) (d : Duty) (ask : Ask) (x : Duty)
    → makes_wrong (setters_in pool) d (Some ask) x ≡ makes_wrong pool d (Some ask) x
wrong_in_lem pool d ask x = rw (mends_kept x d pool)

-- what is right with no duty to mend it is right with any
right_anyway :
    (pool : List Duty) (d : Duty) (ask : Ask) (x : Duty)
    → makes_wrong [] d (Some ask) x ≡ false → makes_wrong pool d (Some ask) x ≡ false
right_anyway pool d ask x e = rw (sym (and_yes (spoils d (Some ask) x)) ∙ e)

none_passes :
    {p q : Duty → Bool} → ((x : Duty) → p x ≡ false → q x ≡ false) → (l : List Duty) → any p l ≡ false
    → any q l ≡ false
none_passes step [] e = refl
none_passes {p} {q} step (x ∷ l) e =
    let (here, rest) = or_false (p x) (any p l) e in rw (step x here) (none_passes step l rest)

module _ (sets : List ℕ) (pool : List Duty) (setters : List Setter) (d : Duty) (ask : Ask)
    (are : setters ≡ map setter_of (setters_in pool)) (few : length setters ≤ max_duties)
  where
    abbrev own : ℕ
    own = get_or sets d.doer 0

    abbrev theirs : ℕ
    theirs = get_or sets ask.target 0

    -- none spoils it
    pub judged :
        {table : List ℕ} {reach : Reach} (mends : Option (List ℕ)) → Table setters mends
        → table ≡ unwrap_or mends (replicate max_duties last_minute)
        → ((l ms : List Duty) → setters ≡ map setter_of l → take (length setters) table ≡ map (mend_in ms) l
        → Weighed sets d ask l ms (Ok reach))
        → (reach ≡ reach_of d ask own theirs pool) × (any (makes_wrong pool d (Some ask)) pool ≡ false)
    judged None known is weighed =
        let l = setters_in pool in
        let e = many l are in
        let empty : take (length setters) (replicate max_duties last_minute) ≡ map (mend_in []) l =
        rw (sym e) (nothing_mends l max_duties (rw e few))
        in
        let found = weighed l [] are (rw is empty) in (
          found.0 ∙ reach_kept d ask own theirs pool,
          sym (wrong_kept pool d ask pool) ∙ none_passes (right_anyway pool d ask) l found.1,
        )
    judged (Some t) known is weighed =
        let l = setters_in pool in
        let found = weighed l l are (rw is (known ∙ mends_are l are)) in (
          found.0 ∙ reach_kept d ask own theirs pool,
          sym (wrong_kept pool d ask pool)
              ∙ none_passes (λ x e. sym (wrong_in_lem pool d ask x) ∙ e) l found.1,
        )

    -- one spoils it, and the table is made
    pub spoiler :
        {table : List ℕ} (z : List ℕ) {s : Serial} (mends : Option (List ℕ)) → Table setters mends
        → is_some mends ≡ true → table ≡ unwrap_or mends z
        → ((l ms : List Duty) → setters ≡ map setter_of l → take (length setters) table ≡ map (mend_in ms) l
        → Weighed sets d ask l ms (Err s))
        → (x : Duty) × Mem x pool × (s.0 ≡ x.serial.0) × (makes_wrong pool d (Some ask) x ≡ true)
    spoiler z None known made is weighed = clash made refl
    spoiler z (Some t) known made is weighed =
        let l = setters_in pool in
        let (x, open_x, named, wrong) = weighed l l are (rw is (known ∙ mends_are l are)) in
        (x, (keep_mem sets_one pool open_x).0, named, sym (wrong_in_lem pool d ask x) ∙ wrong)

    pub can_be_met_is :
        {reach : Reach} {met : Bool} → reach ≡ reach_of d ask own theirs pool → met ≡ met_with reach ask
        → can_be_met sets pool d (Some ask) ≡ met
    can_be_met_is e is = sym (is ∙ ap (λ (s : Reach). met_with s ask) e)
