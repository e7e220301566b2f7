-- A list done duty by duty and cut after the first that is not permitted. Where a list goes through, nothing
-- is cut from it and what follows is judged from the holdings that it leaves; where it gets stuck, what
-- follows does not matter.
use mathlib.Core.Path.{◌≡◌, refl, ap, ◌∙◌}
use mathlib.Core.Bool.{true, false, ◌&&◌, cond}
use mathlib.Core.List.{List, [], ◌∷◌, ◌++◌, append-nil}
use Prim.Native.Nat.{◌≤◌}
use native.Mathlib.Omega.{arith}
use lib.ListN.{length}
use Rattle.orders.specs.Orders.{World, Permitted, run}
use Rattle.orders.specs.Beginnings.{FirstStuck}
use Rattle.orders.specs.Trails.{goes_through, cut_off}
use Rattle.orders.proofs.Tests.{by_test, clash, and_true, and_both}

module _ (W : World) where
  open W use {Duty, State, permitted, after}

  -- ---- where each duty is permitted in its turn, the list goes through

  permitted→goes : (s : State) (l : List Duty) → Permitted W s l → goes_through W s l ≡ true
  permitted→goes s [] h = refl
  permitted→goes s (x ∷ l) h =
      and_both (permitted s x) (goes_through W (after s x) l) h.0 (permitted→goes (after s x) l h.1)

  pub goes_append :
      (s : State) (a b : List Duty)
      → goes_through W s (a ++ b) ≡ goes_through W s a && goes_through W (run W s a) b
  goes_append s [] b = refl
  goes_append s (x ∷ a) b = by_test (permitted s x) (λ e. rw e (goes_append (after s x) a b)) (λ e. rw e)

  -- ---- to get stuck is to have one that is not

  pub stuck_at :
      (s : State) (earlier : List Duty) (d : Duty) (later : List Duty)
      → permitted (run W s earlier) d ≡ false → goes_through W s (earlier ++ (d ∷ later)) ≡ false
  stuck_at s [] d later e = rw e
  stuck_at s (y ∷ earlier) d later e =
      by_test (permitted s y) (λ t. rw t (stuck_at (after s y) earlier d later e)) (λ f. rw f)

  pub first_stuck : (s : State) (l : List Duty) → goes_through W s l ≡ false → FirstStuck W s l
  first_stuck s [] e = clash refl e
  first_stuck s (y ∷ l) e =
      by_test (permitted s y) (λ t. further t (first_stuck (after s y) l (rw t at e))) now
    where
      now : permitted s y ≡ false → FirstStuck W s (y ∷ l)
      now f = record { earlier = []; d = y; later = l; is = refl; done = tt; stuck = f }

      further : permitted s y ≡ true → FirstStuck W (after s y) l → FirstStuck W s (y ∷ l)
      further t r =
          record {
            earlier = y ∷ r.earlier;
            d = r.d;
            later = r.later;
            is = ap (λ (m : List Duty). y ∷ m) r.is;
            done = (t, r.done);
            stuck = r.stuck;
          }

  -- ---- what is cut off

  -- of two lists, the first is cut, and the second too where the first goes through
  pub cut_append :
      (s : State) (a b : List Duty)
      → cut_off W s (a ++ b) ≡ cut_off W s a ++ cond (goes_through W s a) (cut_off W (run W s a) b) []
  cut_append s [] b = refl
  cut_append s (x ∷ a) b =
      by_test
      (permitted s x)
      (λ e. rw e (ap (λ (l : List Duty). x ∷ l) (cut_append (after s x) a b)))
      (λ e. rw e)

  pub cut_whole : (s : State) (a : List Duty) → goes_through W s a ≡ true → cut_off W s a ≡ a
  cut_whole s [] e = refl
  cut_whole s (x ∷ a) e =
      let r = and_true (permitted s x) (goes_through W (after s x) a) e in
      rw r.0 (ap (λ (l : List Duty). x ∷ l) (cut_whole (after s x) a r.1))

  pub cut_through :
      (s : State) (a b : List Duty) → goes_through W s a ≡ true
      → cut_off W s (a ++ b) ≡ a ++ cut_off W (run W s a) b
  cut_through s a b e = rw (cut_append, e, cut_whole s a)

  pub cut_stuck :
      (s : State) (a b : List Duty) → goes_through W s a ≡ false → cut_off W s (a ++ b) ≡ cut_off W s a
  cut_stuck s a b e = rw (cut_append, e, append-nil)

  -- the cut ends with the first duty that is not permitted
  pub cut_first :
      (s : State) (l : List Duty) (f : FirstStuck W s l) → cut_off W s l ≡ f.earlier ++ (f.d ∷ [])
  cut_first s l f =
      ap (cut_off W s) f.is
      ∙ (cut_through s f.earlier (f.d ∷ f.later) (permitted→goes s f.earlier f.done)
      ∙ rw f.stuck)

  pub cut_length : (s : State) (l : List Duty) → length (cut_off W s l) ≤ length l
  cut_length s [] = omega arith
  cut_length s (x ∷ l) =
      let h = cut_length (after s x) l in
      by_test (permitted s x) (λ e. rw e (omega arith)) (λ e. rw e (omega arith))
