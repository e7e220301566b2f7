-- `makes_wrong` is part (b) of the criterion: where x makes a need of d wrong by that test, it spoils some
-- holding that d needs and nothing mends it; and where no duty of the pool does, none of the needs of d is
-- made wrong. A grant or revoke sets one holding: whether d needs the opposite of just that holding is what
-- `makes_wrong` tests. The roles that the duties set are to be below the limit, as they are on a good board.
use mathlib.Core.Path.{◌≡◌, refl, sym, ap, ◌∙◌, fun_ext}
use mathlib.Core.Bool.{Bool, true, false, not, ◌&&◌}
use mathlib.Core.List.{List}
use Rattle.std.specs.Prelude.{Option, None, Some}
use Prim.Native.Nat.{ℕ, ◌<◌}
use lib.Dec.{eqb, ltb}
use borrow.Author.Tests.{eqb-true, eq-eqb, ltb-true, lt-ltb}
use Rattle.orders.specs.Lists.{Mem, any}
use Rattle.orders.specs.Needs.{Duties, needed, sets_to, sets}
use Rattle.orders.specs.Criterion as criterion
use Rattle.orders.proofs.Tests.{by_test, clash, is_false, and_true, and_both, and_yes}
use Rattle.orders.proofs.Lists.{any_true}
use Rattle.roles.specs.Roles.{width}
use Rattle.board.specs.declared.Asked.{Asked}
use Rattle.board.specs.declared.Duty.{Duty}
use Rattle.board.specs.declared.Permission.{Permission}
use Rattle.board.specs.declared.Rule.{Rule}
use Rattle.board.specs.declared.What.{What}
use Rattle.board.specs.declared.What.TheVariants.{Grant, Revoke, Use}
use Rattle.board.specs.Good.{what_fits}
use Rattle.board.specs.Green.{duties_under}
use Rattle.board.specs.Limits.{max_users, max_roles}
use Rattle.board.specs.Permitted.{Holding, same_holding, asked_for, effect_of}
use Rattle.board.specs.Windows.{wholly_before}
use Rattle.asks.specs.declared.Ask.{Ask}
use Rattle.asks.specs.Asks.{in_one_form, asked_that}
use Rattle.quick_criterion.specs.Tests.{needs_opposite, undoes, spoils, mends, makes_wrong}
use Rattle.quick_criterion.proofs.Asking.{asks_for, asks_needs, needs_asks}

-- ---- what is asked

-- tests that give the same of all that can be asked
that : {p q : Ask → Bool} → ((ask : Ask) → p ask ≡ q ask) → (asked : Option Ask) → asked_that p asked ≡ asked_that q asked
that f None = refl
that f (Some ask) = f ask

asked_none : (asked : Option Ask) → asked_that (λ ask. false) asked ≡ false
asked_none None = refl
asked_none (Some ask) = refl

-- ---- what x sets

and_none : (a : Bool) → false ≡ a && false
and_none true = refl
and_none false = refl

together : (a n w m : Bool) → (a && (n && w)) && m ≡ n && ((a && (true && w)) && m)
together a true w m = refl
together true false w m = refl
together false false w m = refl

that_holding :
    (target role : ℕ) (h : Holding) → same_holding (target, role) h && true ≡ true
    → (target ≡ h.0) × (role ≡ h.1)
that_holding target role h e =
    let same = (and_true (same_holding (target, role) h) true e).0 in
    let r = and_true (eqb target h.0) (eqb role h.1) same in
    (eqb-true target h.0 r.0, eqb-true role h.1 r.1)

same_holding_lem : (h : Holding) → same_holding h h && true ≡ true
same_holding_lem h = rw (eq-eqb h.0 h.0 refl, eq-eqb h.1 h.1 refl)

role_below : (target role : ℕ) → ltb target max_users && ltb role max_roles ≡ true → role < max_roles
role_below target role e = ltb-true role max_roles (and_true (ltb target max_users) (ltb role max_roles) e).1

-- a set has room for the role of a holding whose role is below the limit
has_room :
    (user q target role : ℕ) → role < max_roles
    → ltb q width && (eqb user target && eqb q role) ≡ (eqb user target && eqb q role) && true
has_room user q target role h =
    by_test
    (eqb q role)
    (λ e. rw (eqb-true q role e, lt-ltb role width h) (sym (and_yes _)))
    (λ f. rw (f, ← and_none (eqb user target)) (sym (and_none (ltb q width))))

module _ (permissions : List Permission) (rules : List Rule) where
  -- the duties that the criterion speaks of
  abbrev pub duties : Duties
  duties = duties_under permissions rules

  -- This sets the holding to the opposite of p: just the need that the holding is p is the opposite of what
  -- it sets, and what undoes it sets the holding to p.
  record SetsWrong (what : What) (h : Holding) (p : Bool) : Type 0 where
    asked_of :
        (doer : ℕ) (asked : Option Ask)
        → asked_that (λ ask. needs_opposite doer ask what) asked ≡ asks_for doer asked (h, p)
    wrong : sets_to duties (effect_of what) h (not p) ≡ true
    undone : (other : What) → undoes other what ≡ sets_to duties (effect_of other) h p

  grant_sets : (target role : ℕ) → role < max_roles → SetsWrong (Grant target role) (target, role) false
  grant_sets target role h =
      record {
        asked_of = λ doer. that (λ ask. rw (lt-ltb role width h));
        wrong = same_holding_lem (target, role);
        undone = undone;
      }
    where
      undone :
          (other : What)
          → undoes other (Grant target role) ≡ sets_to duties (effect_of other) (target, role) false
      undone (Grant user q) = and_none (eqb user target && eqb q role)
      undone (Revoke user q) = has_room user q target role h
      undone (Use action object) = refl

  revoke_sets : (target role : ℕ) → role < max_roles → SetsWrong (Revoke target role) (target, role) true
  revoke_sets target role h =
      record {
        asked_of = λ doer. that (λ ask. rw (lt-ltb role width h));
        wrong = same_holding_lem (target, role);
        undone = undone;
      }
    where
      undone :
          (other : What)
          → undoes other (Revoke target role) ≡ sets_to duties (effect_of other) (target, role) true
      undone (Grant user q) = has_room user q target role h
      undone (Revoke user q) = and_none (eqb user target && eqb q role)
      undone (Use action object) = refl

  -- and nothing else sets a holding wrong
  sets_wrong :
      (what : What) (h : Holding) (p : Bool) → what_fits max_users max_roles what ≡ true
      → sets_to duties (effect_of what) h (not p) ≡ true → SetsWrong what h p
  sets_wrong (Grant target role) h true f e = clash e (sym (and_none (same_holding (target, role) h)))
  sets_wrong (Grant target role) h false f e =
      let (t, r) = that_holding target role h e in
      rw (t, r) (grant_sets h.0 h.1 (rw r at (role_below target role f)))
  sets_wrong (Revoke target role) h true f e =
      let (t, r) = that_holding target role h e in
      rw (t, r) (revoke_sets h.0 h.1 (rw r at (role_below target role f)))
  sets_wrong (Revoke target role) h false f e = clash e (sym (and_none (same_holding (target, role) h)))
  sets_wrong (Use action object) h p f e = clash e refl

  module _ (pool : List Duty) (d : Duty) where
    -- what is asked for d
    abbrev asked : Asked
    asked = asked_for permissions rules d.what

    abbrev pub ask : Option Ask
    ask = in_one_form d.doer asked

    -- x spoils this need, and no duty between mends it
    abbrev pub spoiled : Holding × Bool → Duty → Bool
    spoiled n x =
        criterion.spoils duties d n.0 n.1 x && not (criterion.mended duties pool d n.0 n.1 x)

    makes_wrong_is :
        (x : Duty) (h : Holding) (p : Bool) → SetsWrong x.what h p
        → makes_wrong pool d ask x ≡ asks_for d.doer ask (h, p) && spoiled (h, p) x
    makes_wrong_is x h p w =
        rw (w.asked_of d.doer ask, mending, w.wrong)
        (together
        (not (eqb x.serial.0 d.serial.0))
        (asks_for d.doer ask (h, p))
        (not (wholly_before d x))
        (not (criterion.mended duties pool d h p x)))
      where
        mending : any (mends x d) pool ≡ criterion.mended duties pool d h p x
        mending =
            ap
            (λ (f : Duty → Bool). any f pool)
            (fun_ext
            (λ g. ap (λ (b : Bool). (wholly_before x g && wholly_before g d) && b) (w.undone g.what)))

    -- where x makes a need of d wrong, there is one that it spoils and that nothing mends
    pub spoiled_need :
        (x : Duty) → what_fits max_users max_roles x.what ≡ true → makes_wrong pool d ask x ≡ true
        → (n : Holding × Bool) × Mem n (needed (duties.asks d)) × (spoiled n x ≡ true)
    spoiled_need x fits e = by_what x.what refl
      where
        at_need :
            (target role : ℕ) (p : Bool) → role < max_roles → SetsWrong x.what (target, role) p
            → (n : Holding × Bool) × Mem n (needed (duties.asks d)) × (spoiled n x ≡ true)
        at_need target role p below w =
            let n : Holding × Bool = ((target, role), p) in
            let both = sym (makes_wrong_is x (target, role) p w) ∙ e in
            let r = and_true (asks_for d.doer ask n) (spoiled n x) both in
            (n, asks_needs d.doer asked target role p below r.0, r.1)

        by_what :
            (what : What) → x.what ≡ what
            → (n : Holding × Bool) × Mem n (needed (duties.asks d)) × (spoiled n x ≡ true)
        by_what (Grant target role) is =
            let h = role_below target role (rw is at fits) in
            at_need target role false h (rw is (grant_sets target role h))
        by_what (Revoke target role) is =
            let h = role_below target role (rw is at fits) in
            at_need target role true h (rw is (revoke_sets target role h))
        by_what (Use action object) is =
            let r = and_true (spoils d ask x) (not (any (mends x d) pool)) e in
            let a = and_true (not (eqb x.serial.0 d.serial.0)) _ r.0 in
            clash (and_true _ (not (wholly_before d x)) a.1).0 (rw is (asked_none ask))

    -- where no duty makes a need of d wrong, none of its needs is made wrong
    pub none_made_wrong :
        ((x : Duty) → Mem x pool → what_fits max_users max_roles x.what ≡ true)
        → ((x : Duty) → Mem x pool → makes_wrong pool d ask x ≡ false) → (n : Holding × Bool)
        → Mem n (needed (duties.asks d)) → criterion.made_wrong duties pool d n.0 n.1 ≡ false
    none_made_wrong fits f n m =
        is_false
        (criterion.made_wrong duties pool d n.0 n.1)
        (λ e.
        let (x, i, t) = any_true (spoiled n) pool e in
        let spoiling = (and_true (criterion.spoils duties d n.0 n.1 x) _ t).0 in
        let a = (and_true (not (eqb x.serial.0 d.serial.0)) _ spoiling).1 in
        let wrong = (and_true (sets duties x n.0 (not n.1)) (not (wholly_before d x)) a).0 in
        clash
        (makes_wrong_is x n.0 n.1 (sets_wrong x.what n.0 n.1 (fits x i) wrong)
        ∙ and_both (asks_for d.doer ask n) (spoiled n x) (needs_asks d.doer asked n m) t)
        (f x i))
