-- What a duty's needs and effect mean, one holding at a time: permitted is to have a permission or rule and
-- every need met; doing it sets a holding or leaves it. So a holding that is wrong after a list of duties was
-- wrong before and nothing set it right, or something set it wrong and nothing after that set it right.
use mathlib.Core.Path.{◌≡◌, refl, sym, ◌∙◌, ap}
use mathlib.Core.Logic.{◌⊎◌, inl, inr, ⊎_elim}
use mathlib.Core.Bool.{Bool, true, false, not, beq}
use Rattle.std.specs.Prelude.{Option, None, Some}
use mathlib.Core.List.{List, [], ◌∷◌, ◌++◌}
use Rattle.orders.specs.Lists.{Mem, here, there}
use Rattle.orders.specs.Orders.{run}
use Rattle.orders.specs.Needs.{Duties, Holdings, world, met, change, ruled, needed, sets_to, sets}
use Rattle.orders.proofs.Tests.{by_test, clash, clash_not, and_true, beq_true, beq_false}
use Rattle.orders.proofs.Lists.{all_mem, all_false, at_cons}

-- ---- permitted

module _ {H : Type 0} where
  pub met_ruled : (s : H → Bool) (o : Option (List (H × Bool))) → met s o ≡ true → ruled o ≡ true
  met_ruled s None e = e
  met_ruled s (Some needs) e = refl

  pub met_need :
      (s : H → Bool) (o : Option (List (H × Bool))) (h : H) (p : Bool) → met s o ≡ true
      → Mem (h, p) (needed o) → s h ≡ p
  met_need s None h p e m = elim m [ ]
  met_need s (Some needs) h p e m = beq_true (s h) p (all_mem (λ n. beq (s n.0) n.1) e m)

  -- a need that is not met
  pub record Unmet (s : H → Bool) (o : Option (List (H × Bool))) : Type 0 where
    pub holding : H
    pub value : Bool
    pub need : Mem (holding, value) (needed o)
    pub wrong : s holding ≡ not value

  pub why_not :
      (s : H → Bool) (o : Option (List (H × Bool))) → met s o ≡ false → (ruled o ≡ false) ⊎ Unmet s o
  why_not s None e = inl refl
  why_not s (Some needs) e =
      let ((h, p), m, f) = all_false (λ n. beq (s n.0) n.1) needs e in
      inr (record { holding = h; value = p; need = m; wrong = beq_false (s h) p f })

module _ (D : Duties) where
  open D use {Duty, Holding, same, effect}

  -- ---- the effect of one duty on one holding

  pub sets_it :
      (s : Holdings D) (o : Option (Holding × Bool)) (h : Holding) (p : Bool) → sets_to D o h p ≡ true
      → change D s o h ≡ p
  sets_it s None h p e = clash e refl
  sets_it s (Some (k, q)) h p e =
      let r = and_true (same k h) (beq q p) e in
      rw r.0 (beq_true q p r.1)

  pub leaves_it :
      (s : Holdings D) (o : Option (Holding × Bool)) (h : Holding) (p : Bool) → sets_to D o h p ≡ false
      → sets_to D o h (not p) ≡ false → change D s o h ≡ s h
  leaves_it s None h p e f = refl
  leaves_it s (Some (k, q)) h p e f =
      by_test (same k h) (λ t. neither q p (rw t at e) (rw t at f)) (λ t. rw t)
    where
      neither :
          (q p : Bool) → beq q p ≡ false → beq q (not p) ≡ false
          → change D s (Some (k, q)) h ≡ s h
      neither q p e f = clash_not p (beq_same q p f) (beq_false q p e)
        where
          beq_same : (q p : Bool) → beq q (not p) ≡ false → q ≡ p
          beq_same true true f = refl
          beq_same true false f = clash refl f
          beq_same false true f = clash refl f
          beq_same false false f = refl

  -- ---- the effect of a list of duties on one holding

  -- nothing in the list sets it to p
  abbrev pub NoneSets : Holding → Bool → List Duty → Type 0
  NoneSets h p l = (g : Duty) → Mem g l → sets D g h p ≡ false

  -- wrong at the start, and nothing sets it right: wrong at the end
  pub wrong_stays :
      (h : Holding) (p : Bool) (s : Holdings D) (l : List Duty) → s h ≡ not p → NoneSets h p l
      → run (world D) s l h ≡ not p
  wrong_stays h p s [] e f = e
  wrong_stays h p s (x ∷ l) e f = wrong_stays h p (change D s (effect x)) l still (λ g m. f g (there m))
    where
      still : change D s (effect x) h ≡ not p
      still =
          by_test
          (sets D x h (not p))
          (sets_it s (effect x) h (not p))
          (λ k. leaves_it s (effect x) h p (f x (here refl)) k ∙ e)

  -- x sets it wrong, and nothing after x sets it right
  pub record LastSet (h : Holding) (p : Bool) (l : List Duty) : Type 0 where
    pub earlier : List Duty
    pub x : Duty
    pub later : List Duty
    pub is : l ≡ earlier ++ (x ∷ later)
    pub wrong : sets D x h (not p) ≡ true
    pub unset : NoneSets h p later

  -- it was wrong, and nothing sets it right
  pub record NeverSet (h : Holding) (p : Bool) (s : Holdings D) (l : List Duty) : Type 0 where
    pub now : s h ≡ not p
    pub unset : NoneSets h p l

  -- wrong at the end: one of these two
  pub why_wrong :
      (h : Holding) (p : Bool) (s : Holdings D) (l : List Duty) → run (world D) s l h ≡ not p
      → NeverSet h p s l ⊎ LastSet h p l
  why_wrong h p s [] e = inl (record { now = e; unset = λ g m. elim m [ ] })
  why_wrong h p s (x ∷ l) e = ⊎_elim first further (why_wrong h p (change D s (effect x)) l e)
    where
      further : LastSet h p l → NeverSet h p s (x ∷ l) ⊎ LastSet h p (x ∷ l)
      further r =
          inr
          (record {
            earlier = x ∷ r.earlier;
            x = r.x;
            later = r.later;
            is = ap (λ (t : List Duty). x ∷ t) r.is;
            wrong = r.wrong;
            unset = r.unset;
          })

      first : NeverSet h p (change D s (effect x)) l → NeverSet h p s (x ∷ l) ⊎ LastSet h p (x ∷ l)
      first r = by_test (sets D x h p) (λ t. clash_not p (sets_it s (effect x) h p t) r.now) not_right
        where
          x_last : sets D x h (not p) ≡ true → LastSet h p (x ∷ l)
          x_last t = record { earlier = []; x = x; later = l; is = refl; wrong = t; unset = r.unset }

          x_neither : sets D x h p ≡ false → sets D x h (not p) ≡ false → NeverSet h p s (x ∷ l)
          x_neither u v =
              record {
                now = sym (leaves_it s (effect x) h p u v) ∙ r.now;
                unset = λ g m. at_cons (λ q. rw q u) (r.unset g) m;
              }

          not_right : sets D x h p ≡ false → NeverSet h p s (x ∷ l) ⊎ LastSet h p (x ∷ l)
          not_right u = by_test (sets D x h (not p)) (λ t. inr (x_last t)) (λ v. inl (x_neither u v))
