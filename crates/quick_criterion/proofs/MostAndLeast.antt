-- `most` and `least` go through a list of duties in turn, and each duty wholly before d may change the set.
-- So one duty more makes one step more; and a role is wrong in the end just where it is wrong at the start
-- and no duty wholly before d sets it right.
use mathlib.Core.Path.{◌≡◌, refl, sym, ap, ◌∙◌}
use mathlib.Core.Bool.{Bool, true, false, not, ◌&&◌, ◌||◌, cond, beq}
use mathlib.Core.List.{List, [], ◌∷◌, ◌++◌}
use Prim.Native.Nat.{ℕ, ◌+◌, ◌<◌}
use native.Mathlib.Numerals.{add-one}
use lib.Dec.{eqb}
use lib.ListN.{length, get_or, take}
use lib.Seq.{take-suc}
use borrow.Author.Tests.{eqb-true, eqb-false}
use Rattle.orders.specs.Lists.{any}
use Rattle.orders.specs.Needs.{sets, sets_to}
use Rattle.orders.proofs.Tests.{by_test, beq_refl}
use Rattle.roles.specs.Roles.{in_set, with_role, without_role}
use Rattle.roles.proofs.Laws.{with_same, with_other, without_same, without_other}
use Rattle.board.specs.declared.Duty.{Duty}
use Rattle.board.specs.declared.Permission.{Permission}
use Rattle.board.specs.declared.Rule.{Rule}
use Rattle.board.specs.declared.What.{What}
use Rattle.board.specs.declared.What.TheVariants.{Grant, Revoke, Use}
use Rattle.board.specs.Green.{duties_under}
use Rattle.board.specs.Limits.{max_roles}
use Rattle.board.specs.Permitted.{effect_of}
use Rattle.board.specs.Windows.{wholly_before}
use Rattle.quick_criterion.specs.Tests.{granted, revoked, most, least}
pub use Rattle.quick_criterion.proofs.AfterOne.{after_one}

-- `end` goes through a list with `by`
pub record Through (by : What → ℕ → ℕ) (d : Duty) (end : ℕ → List Duty → ℕ) : Type 0 where
  pub none : (set : ℕ) → end set [] ≡ set
  pub some : (set : ℕ) (g : Duty) (l : List Duty) → end set (g ∷ l) ≡ end (after_one by d g set) l

pub most_through : (d : Duty) (user : ℕ) → Through (granted user) d (most d user)
unfolding most
most_through d user = record { none = λ set. refl; some = λ set g l. refl }

pub least_through : (d : Duty) (user : ℕ) → Through (revoked user) d (least d user)
unfolding least
least_through d user = record { none = λ set. refl; some = λ set g l. refl }

module _ {by : What → ℕ → ℕ} {d : Duty} {end : ℕ → List Duty → ℕ} (T : Through by d end) where
  -- ---- one duty more

  one_more :
      (set : ℕ) (l : List Duty) (g : Duty) → end set (l ++ (g ∷ [])) ≡ after_one by d g (end set l)
  one_more set [] g =
      T.some set g [] ∙ T.none (after_one by d g set) ∙ ap (after_one by d g) (sym (T.none set))
  one_more set (x ∷ l) g =
      T.some set x (l ++ (g ∷ []))
      ∙ one_more (after_one by d x set) l g
      ∙ ap (after_one by d g) (sym (T.some set x l))

  -- the place at hand of an array: `so_far` is the set before it, `next` the set after it
  pub place_more :
      (set : ℕ) (l : List Duty) (k : ℕ) (z : Duty) → k < length l → {so_far next : ℕ}
      → so_far ≡ end set (take k l) → next ≡ after_one by d (get_or l k z) so_far
      → next ≡ end set (take (k + 1) l)
  place_more set l k z h e f =
      rw
      (add-one, take-suc l k z)
      (f ∙ ap (after_one by d (get_or l k z)) e ∙ sym (one_more set (take k l) (get_or l k z)))

-- ---- a role that is wrong

-- the set has it wrong that the role is to be held, or not
abbrev pub wrong_in : ℕ → Bool → ℕ → Bool
wrong_in q p set = beq (in_set set q) (not p)

and_nothing : (a : Bool) → a ≡ a && true
and_nothing true = refl
and_nothing false = refl

and_not_false : (a b : Bool) → a ≡ a && not (b && false)
and_not_false true true = refl
and_not_false true false = refl
and_not_false false b = refl

and_not_or : (a b c : Bool) → (a && not b) && not c ≡ a && not (b || c)
and_not_or true true c = refl
and_not_or true false c = refl
and_not_or false b c = refl

not_itself : (p : Bool) → beq p (not p) ≡ false
not_itself true = refl
not_itself false = refl

nothing_left : (a b : Bool) → b ≡ true → false ≡ a && not b
nothing_left true b e = rw e
nothing_left false b e = refl

module _ (permissions : List Permission) (rules : List Rule) (user q : ℕ) (h : q < max_roles) where
  -- what is done sets it right
  abbrev sets_right : Bool → What → Bool
  sets_right p what = sets_to (duties_under permissions rules) (effect_of what) (user, q) p

  -- Another set for the user, that differs in one role, which is right in it.
  put_right :
      (set target role new : ℕ) (p : Bool) → (q ≡ role → in_set new q ≡ p)
      → ((q ≡ role → ⊥) → in_set new q ≡ in_set set q)
      → wrong_in q p (cond (eqb target user) new set)
      ≡ wrong_in q p set && not ((eqb target user && eqb role q) && beq p p)
  put_right set target role new p same other = by_test (eqb target user) mine (λ f. rw f (and_nothing _))
    where
      mine :
          eqb target user ≡ true
          → wrong_in q p (cond (eqb target user) new set)
          ≡ wrong_in q p set && not ((eqb target user && eqb role q) && beq p p)
      mine e =
          by_test
          (eqb role q)
          (λ f.
          rw
          (e, f, same (sym (eqb-true role q f)), not_itself p)
          (nothing_left (wrong_in q p set) (beq p p) (beq_refl p)))
          (λ f. rw (e, f, other (λ i. eqb-false role q f (sym i))) (and_nothing _))

  -- of grants and revokes one sets it right, the other leaves it as wrong or as right as it was
  granted_wrong :
      (what : What) (set : ℕ)
      → wrong_in q true (granted user what set) ≡ wrong_in q true set && not (sets_right true what)
  granted_wrong (Grant target role) set =
      put_right
      set
      target
      role
      (with_role set role)
      true
      (λ e. rw e (with_same set role (rw e at h)))
      (with_other set role q)
  granted_wrong (Revoke target role) set = and_not_false _ (eqb target user && eqb role q)
  granted_wrong (Use action object) set = and_nothing _

  revoked_wrong :
      (what : What) (set : ℕ)
      → wrong_in q false (revoked user what set) ≡ wrong_in q false set && not (sets_right false what)
  revoked_wrong (Grant target role) set = and_not_false _ (eqb target user && eqb role q)
  revoked_wrong (Revoke target role) set =
      put_right
      set
      target
      role
      (without_role set role)
      false
      (λ e. rw e (without_same set role (rw e at h)))
      (without_other set role q)
  revoked_wrong (Use action object) set = and_nothing _

  module _ (d : Duty) (p : Bool) where
    -- g is wholly before d and sets it right
    abbrev pub sets_right_before : Duty → Bool
    sets_right_before g = wholly_before g d && sets (duties_under permissions rules) g (user, q) p

    wrong_through :
        {by : What → ℕ → ℕ} {end : ℕ → List Duty → ℕ} → Through by d end
        → ((what : What) (set : ℕ) → wrong_in q p (by what set) ≡ wrong_in q p set && not (sets_right p what))
        → (set : ℕ) (l : List Duty)
        → wrong_in q p (end set l) ≡ wrong_in q p set && not (any sets_right_before l)
    wrong_through {by} {end} T one set [] = rw (T.none set) (and_nothing _)
    wrong_through {by} {end} T one set (g ∷ l) =
        ap (wrong_in q p) (T.some set g l)
        ∙ wrong_through T one (after_one by d g set) l
        ∙ ap (λ (b : Bool). b && not (any sets_right_before l)) step
        ∙ and_not_or (wrong_in q p set) (sets_right_before g) (any sets_right_before l)
      where
        step : wrong_in q p (after_one by d g set) ≡ wrong_in q p set && not (sets_right_before g)
        step =
            by_test (wholly_before g d) (λ e. rw e (one g.what set)) (λ f. rw f (and_nothing _))

  pub wrong_most :
      (d : Duty) (set : ℕ) (l : List Duty)
      → wrong_in q true (most d user set l) ≡ wrong_in q true set && not (any (sets_right_before d true) l)
  wrong_most d = wrong_through d true (most_through d user) granted_wrong

  pub wrong_least :
      (d : Duty) (set : ℕ) (l : List Duty)
      → wrong_in q false (least d user set l) ≡ wrong_in q false set && not (any (sets_right_before d false) l)
  wrong_least d = wrong_through d false (least_through d user) revoked_wrong
