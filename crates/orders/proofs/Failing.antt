-- Failing orders. Green says that every order is permitted from its first duty to its last, so a failing
-- order refutes it. To make one, code builds a beginning in which some duty is not permitted in its turn, and
-- cuts it after the first such duty: an allowed order that begins with the whole list begins with the cut
-- list too.
use mathlib.Core.Path.{◌≡◌, refl, ap, subst}
use mathlib.Core.Logic.{◌↔◌}
use mathlib.Core.Bool.{true, false}
use mathlib.Core.List.{List, [], ◌∷◌, ◌++◌, append_assoc}
use Rattle.orders.specs.Orders.{World, Order, Pool, Green, Permitted, Failing, run}
use Rattle.orders.specs.Beginnings.{Beginning, FirstStuck, FailsLast, GetsStuck, EndsStuck}
use Rattle.orders.specs.Trails.{goes_through, cut_off}
use Rattle.orders.proofs.Tests.{clash}
use Rattle.orders.proofs.Build.{rest, begin}
use Rattle.orders.proofs.Cuts.{stuck_at, first_stuck, cut_first}

module _ (W : World) where
  open W use {Duty, State, permitted, after}

  -- ---- green, said of whole orders

  permitted_at :
      (s : State) (earlier : List Duty) (d : Duty) (later : List Duty)
      → Permitted W s (earlier ++ (d ∷ later)) → permitted (run W s earlier) d ≡ true
  permitted_at s [] d later h = h.0
  permitted_at s (y ∷ earlier) d later h = permitted_at (after s y) earlier d later h.1

  all_permitted :
      (s : State) (l : List Duty)
      → ((earlier : List Duty) (d : Duty) (later : List Duty) → l ≡ earlier ++ (d ∷ later)
      → permitted (run W s earlier) d ≡ true)
      → Permitted W s l
  all_permitted s [] h = tt
  all_permitted s (x ∷ l) h = (
    h [] x l refl,
    all_permitted
        (after s x)
        l
        (λ earlier d later e. h (x ∷ earlier) d later (ap (λ (t : List Duty). x ∷ t) e)),
  )

  pub green↔permitted :
      (s : State) (pool : List Duty)
      → Green W s pool ↔ ((order : List Duty) → Order W pool order → Permitted W s order)
  green↔permitted s pool = (
    λ g order o. all_permitted s order (g order o),
    λ f order o earlier d later e. permitted_at s earlier d later (rw e at (f order o)),
  )

  -- a failing order refutes green
  pub failing_not_green : (s : State) (pool list : List Duty) → Failing W s pool list → Green W s pool → ⊥
  failing_not_green s pool list f g =
      clash (g _ f.order f.earlier f.last f.later refl) f.stuck

  -- ---- to make one

  module _ (s : State) (pool : List Duty) (P : Pool W pool) where
    -- an allowed order that begins with a beginning
    begun_order :
        (earlier : List Duty) (d : Duty) (later : List Duty) → Beginning W pool (earlier ++ (d ∷ later))
        → Order W pool (earlier ++ (d ∷ (later ++ rest W pool (earlier ++ (d ∷ later)))))
    begun_order earlier d later b =
        let whole = earlier ++ (d ∷ later) in
        subst (Order W pool) (append_assoc earlier (d ∷ later) _) (begin W pool P whole b)

    -- it gets stuck where the beginning ends stuck
    pub ends→gets : (earlier : List Duty) (d : Duty) → EndsStuck W s pool earlier d → GetsStuck W s pool
    ends→gets earlier d e =
        record {
          earlier = earlier;
          d = d;
          later = rest W pool (earlier ++ (d ∷ []));
          order = begun_order earlier d [] e.begins;
          stuck = e.stuck;
        }

    -- a beginning, cut after a duty that is not permitted, those before it being permitted
    pub cut_failing :
        (earlier : List Duty) (d : Duty) (later : List Duty) → Beginning W pool (earlier ++ (d ∷ later))
        → Permitted W s earlier → permitted (run W s earlier) d ≡ false
        → Failing W s pool (earlier ++ (d ∷ []))
    cut_failing earlier d later b done stuck =
        record {
          earlier = earlier;
          last = d;
          later = later ++ rest W pool (earlier ++ (d ∷ later));
          is = refl;
          order = begun_order earlier d later b;
          done = done;
          stuck = stuck;
        }

    -- the same, cut after the first that is not permitted
    pub first_failing_lem :
        (list : List Duty) → Beginning W pool list → (f : FirstStuck W s list)
        → Failing W s pool (f.earlier ++ (f.d ∷ []))
    first_failing_lem list b f = cut_failing f.earlier f.d f.later (rw f.is at b) f.done f.stuck

    -- a beginning in which some duty is not permitted in its turn, cut
    pub beginning→failing :
        (list : List Duty) → Beginning W pool list → goes_through W s list ≡ false
        → Failing W s pool (cut_off W s list)
    beginning→failing list b e =
        let f = first_stuck W s list e in rw (cut_first W s list f) (first_failing_lem list b f)

    -- so also where it is the last duty
    pub ends→failing :
        (earlier : List Duty) (d : Duty) → EndsStuck W s pool earlier d
        → Failing W s pool (cut_off W s (earlier ++ (d ∷ [])))
    ends→failing earlier d e =
        beginning→failing (earlier ++ (d ∷ [])) e.begins (stuck_at W s earlier d [] e.stuck)

    -- a beginning whose duties are all permitted in turn but the last
    pub failing_by : (list : List Duty) → Beginning W pool list → FailsLast W s list → Failing W s pool list
    failing_by list b f =
        rw f.is (cut_failing f.earlier f.last [] (rw f.is at b) f.done f.stuck)

  -- ---- some order gets stuck exactly if there is a failing order

  module _ (s : State) (pool : List Duty) where
    pub stuck→failing : GetsStuck W s pool → (list : List Duty) × Failing W s pool list
    stuck→failing g =
        let e = stuck_at W s g.earlier g.d g.later g.stuck in
        let f = first_stuck W s (g.earlier ++ (g.d ∷ g.later)) e in (
          f.earlier ++ (f.d ∷ []),
          record {
            earlier = f.earlier;
            last = f.d;
            later = f.later;
            is = refl;
            order = rw f.is at g.order;
            done = f.done;
            stuck = f.stuck;
          },
        )

    pub failing→stuck : (list : List Duty) → Failing W s pool list → GetsStuck W s pool
    failing→stuck list f =
        record {
          earlier = f.earlier;
          d = f.last;
          later = f.later;
          order = f.order;
          stuck = f.stuck;
        }
