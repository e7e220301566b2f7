-- What is in reach (specs/Reaching) goes through the duties in turn: with none of them it is the sets
-- themselves, each one more makes one step, and one that sets nothing makes none.
use mathlib.Core.Path.{◌≡◌, refl, ap}
use mathlib.Core.Bool.{Bool, true, false, cond}
use mathlib.Core.List.{List, [], ◌∷◌}
use Prim.Native.Nat.{ℕ, ◌+◌, ◌<◌}
use lib.ListN.{length, get_or, take}
use Rattle.orders.specs.Lists.{keep}
use Rattle.orders.proofs.Tests.{by_test}
use Rattle.asks.specs.declared.Ask.{Ask}
use Rattle.board.specs.declared.Duty.{Duty}
use Rattle.board.specs.declared.What.{What}
use Rattle.board.specs.Windows.{wholly_before}
use Rattle.troubles.specs.declared.pairs.Reach.{Reach}
use Rattle.troubles.specs.Reaching.{reach_with, reach_of}
use Rattle.troubles.specs.Setting.{sets_one}
use Rattle.quick_criterion.specs.Tests.{granted, revoked}
use Rattle.troubles.proofs.Idle.{idle}
use Rattle.quick_criterion.proofs.MostAndLeast.{after_one, Through, most_through, least_through, place_more}

-- ---- one set

alike : (b : Bool) (set : ℕ) → cond b set set ≡ set
alike true set = refl
alike false set = refl

module _
    {by : What → ℕ → ℕ} {d : Duty} {end : ℕ → List Duty → ℕ} (T : Through by d end)
    (still : (g : Duty) (set : ℕ) → sets_one g ≡ false → by g.what set ≡ set)
  where
    through_kept : (set : ℕ) (l : List Duty) → end set (keep sets_one l) ≡ end set l
    through_kept set [] = refl
    through_kept set (g ∷ l) =
        by_test
        (sets_one g)
        (λ t. rw (t, T.some set g (keep sets_one l), T.some set g l) (through_kept (after_one by d g set) l))
        (λ e. rw (e, T.some set g l, still g set e, alike (wholly_before g d) set) (through_kept set l))

granting : (user : ℕ) (g : Duty) (set : ℕ) → sets_one g ≡ false → granted user g.what set ≡ set
granting user g set e = (idle g e).grants_nothing user set

revoking : (user : ℕ) (g : Duty) (set : ℕ) → sets_one g ≡ false → revoked user g.what set ≡ set
revoking user g set e = (idle g e).revokes_nothing user set

-- ---- the three together

module _ (d : Duty) (ask : Ask) (own theirs : ℕ) where
  pub reach_none :
      reach_of d ask own theirs [] ≡ record { own = own; most = theirs; least = theirs }
  reach_none =
      λ i.
      record {
        own = (most_through d d.doer).none own i;
        most = (most_through d ask.target).none theirs i;
        least = (least_through d ask.target).none theirs i;
      }

  -- the place at hand: `reach` is what there is before it, `next` what there is after it
  module _ (l : List Duty) (k : ℕ) (z : Duty) (h : k < length l) {reach next : Reach} where
    pub reach_more :
        reach ≡ reach_of d ask own theirs (take k l) → next ≡ reach_with d ask reach (get_or l k z)
        → next ≡ reach_of d ask own theirs (take (k + 1) l)
    reach_more e f =
        λ i.
        record {
          own =
              part
              (most_through d d.doer)
              own
              (ap (λ (r : Reach). r.own) e)
              (ap (λ (r : Reach). r.own) f)
              i;
          most =
              part
              (most_through d ask.target)
              theirs
              (ap (λ (r : Reach). r.most) e)
              (ap (λ (r : Reach). r.most) f)
              i;
          least =
              part
              (least_through d ask.target)
              theirs
              (ap (λ (r : Reach). r.least) e)
              (ap (λ (r : Reach). r.least) f)
              i;
        }
      where
        part :
            {by : What → ℕ → ℕ} {end : ℕ → List Duty → ℕ} → Through by d end → (set : ℕ)
            → {so_far next : ℕ} → so_far ≡ end set (take k l) → next ≡ after_one by d (get_or l k z) so_far
            → next ≡ end set (take (k + 1) l)
        part T set = place_more T set l k z h

  pub reach_kept :
      (pool : List Duty) → reach_of d ask own theirs (keep sets_one pool) ≡ reach_of d ask own theirs pool
  reach_kept pool =
      λ i.
      record {
        own = through_kept (most_through d d.doer) (granting d.doer) own pool i;
        most = through_kept (most_through d ask.target) (granting ask.target) theirs pool i;
        least = through_kept (least_through d ask.target) (revoking ask.target) theirs pool i;
      }
