-- A world W translated into a world X: duties into duties with the same serial, states into states, so that a
-- duty is permitted in X where it is in W and changes the state alike; and on a pool of W's duties one is
-- wholly before another in X just where it is in W. Then each order and each failing order of the pool is one
-- of the translated pool, and where that is green in X, the pool is green in W. With a translation back as
-- well, that gives the pool again, green and failing orders are the same in both worlds: so two rules for
-- "wholly before" can share all that is proved of one.
use mathlib.Core.Path.{◌≡◌, refl, sym, ap, subst, ◌∙◌}
use mathlib.Core.List.{List, [], ◌∷◌, ◌++◌, map, map-append}
use Prim.Native.Nat.{ℕ}
use Rattle.orders.specs.Lists.{Mem, here, there, Pairwise}
use Rattle.orders.specs.Orders.{World, Order, MayFollow, Green, Permitted, Failing, FailingSerials, run}

-- ---- members of a list of pictures

module _ {A B : Type 0} (f : A → B) where
  pub picture_in : {x : A} {l : List A} → Mem x l → Mem (f x) (map f l)
  picture_in (here e) = here (ap f e)
  picture_in (there m) = there (picture_in m)

  pub picture_of : (l : List A) {y : B} → Mem y (map f l) → (x : A) × Mem x l × (y ≡ f x)
  picture_of [] {y = y} x' = elim x' [ ]
  picture_of (x ∷ l) (here e) = (x, here refl, e)
  picture_of (x ∷ l) (there m) = let r = picture_of l m in (r.0, there r.1, r.2)

-- ---- duties and states of W as those of X

pub record Translation (W X : World) : Type 0 where
  pub duty : W.Duty → X.Duty
  pub state : W.State → X.State
  pub serial : (d : W.Duty) → X.serial (duty d) ≡ W.serial d
  pub permitted : (s : W.State) (d : W.Duty) → X.permitted (state s) (duty d) ≡ W.permitted s d
  pub after : (s : W.State) (d : W.Duty) → X.after (state s) (duty d) ≡ state (W.after s d)

module _ (W X : World) (T : Translation W X) where
  abbrev pub translated : List W.Duty → List X.Duty
  translated = map T.duty

  run_translated :
      (s : W.State) (l : List W.Duty) → run X (T.state s) (translated l) ≡ T.state (run W s l)
  run_translated s [] = refl
  run_translated s (d ∷ l) =
      ap (λ (t : X.State). run X t (translated l)) (T.after s d) ∙ run_translated (W.after s d) l

  permitted_translated :
      (s : W.State) (l : List W.Duty) → Permitted W s l → Permitted X (T.state s) (translated l)
  permitted_translated s [] h = tt
  permitted_translated s (d ∷ l) h = (
    T.permitted s d ∙ h.0,
    subst
        (λ (t : X.State). Permitted X t (translated l))
        (sym (T.after s d))
        (permitted_translated (W.after s d) l h.1),
  )

  serials_translated : (l : List W.Duty) → map X.serial (translated l) ≡ map W.serial l
  serials_translated [] = refl
  serials_translated (d ∷ l) = rw (T.serial d, serials_translated l)

  -- what comes after some is permitted there where it is here
  next_translated :
      (s : W.State) (earlier : List W.Duty) (next : W.Duty)
      → X.permitted (run X (T.state s) (translated earlier)) (T.duty next)
      ≡ W.permitted (run W s earlier) next
  next_translated s earlier next =
      ap (λ (t : X.State). X.permitted t (T.duty next)) (run_translated s earlier)
      ∙ T.permitted (run W s earlier) next

  -- On this pool wholly before is the same in both.
  module _ (pool : List W.Duty)
      (same : (x y : W.Duty) → Mem x pool → Mem y pool
      → X.wholly_before (T.duty x) (T.duty y) ≡ W.wholly_before x y) where
    spaced_translated :
        (order : List W.Duty) → ((d : W.Duty) → Mem d order → Mem d pool) → Pairwise (MayFollow W) order
        → Pairwise (MayFollow X) (translated order)
    spaced_translated [] only p = tt
    spaced_translated (x ∷ order) only p = (
      λ y m. let r = picture_of T.duty order m in
          let follows = p.0 r.0 r.1 in
          rw r.2 (
            λ e. follows.0 (sym (T.serial x) ∙ e ∙ T.serial r.0),
            same r.0 x (only r.0 (there r.1)) (only x (here refl)) ∙ follows.1,
          ),
      spaced_translated order (λ d m. only d (there m)) p.1,
    )

    pub order_translated :
        (order : List W.Duty) → Order W pool order → Order X (translated pool) (translated order)
    order_translated order o = record {
      every = λ y m. let r = picture_of T.duty pool m in
          rw r.2 (picture_in T.duty (o.every r.0 r.1));
      only = λ y m. let r = picture_of T.duty order m in
          rw r.2 (picture_in T.duty (o.only r.0 r.1));
      spaced = spaced_translated order o.only o.spaced;
    }

    pub green_translated : (s : W.State) → Green X (T.state s) (translated pool) → Green W s pool
    green_translated s green order o earlier next later e =
        sym (next_translated s earlier next)
        ∙ green (translated order) (order_translated order o) (translated earlier) (T.duty next)
        (translated later)
        (ap translated e ∙ map-append T.duty earlier (next ∷ later))

    pub failing_translated :
        (s : W.State) (list : List W.Duty) → Failing W s pool list
        → Failing X (T.state s) (translated pool) (translated list)
    failing_translated s list f = record {
      earlier = translated f.earlier;
      last = T.duty f.last;
      later = translated f.later;
      is = ap translated f.is ∙ map-append T.duty f.earlier (f.last ∷ []);
      order = subst
          (Order X (translated pool))
          (map-append T.duty f.earlier (f.last ∷ f.later))
          (order_translated (f.earlier ++ (f.last ∷ f.later)) f.order);
      done = permitted_translated s f.earlier f.done;
      stuck = next_translated s f.earlier f.last ∙ f.stuck;
    }

    pub failing_serials_translated :
        (s : W.State) (serials : List ℕ) → FailingSerials W s pool serials
        → FailingSerials X (T.state s) (translated pool) serials
    failing_serials_translated s serials f = record {
      list = translated f.list;
      named = serials_translated f.list ∙ f.named;
      failing = failing_translated s f.list f.failing;
    }
