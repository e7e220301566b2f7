-- The tests of the criterion agree with its records: `is_red` is true exactly where the board is red by it.
-- Each test is taken apart into the parts of its record and put together again.
use mathlib.Core.Path.{◌≡◌, refl}
use mathlib.Core.Logic.{◌↔◌, ◌⊎◌, inl, inr, ⊎_elim}
use mathlib.Core.Bool.{Bool, true, false, not, ◌&&◌, ◌||◌, beq}
use mathlib.Core.List.{List}
use lib.Dec.{eqb}
use borrow.Author.Tests.{eqb-false, ne_eqb}
use Rattle.orders.specs.Lists.{Mem, any}
use Rattle.orders.specs.Needs.{Duties, Holdings, ruled, needed, sets}
use Rattle.orders.specs.Criterion.{
  StaysWrong,
  MadeWrong,
  CanBeWrong,
  Red,
  stays_wrong,
  spoils,
  mended,
  made_wrong,
  red_at,
  is_red,
}
use Rattle.orders.proofs.Tests.{
  or_true,
  or_left,
  or_right,
  and_true,
  and_both,
  not_true,
  not_of_false,
  beq_true,
  beq_refl,
}
use Rattle.orders.proofs.Lists.{any_true, any_mem, none_both, both_none}

module _ (D : Duties) where
  open D use {Duty, Holding, serial, wholly_before, asks}

  module _ (pool : List Duty) (d : Duty) (h : Holding) (p : Bool) where
    -- ---- (a)

    pub stays_wrong_is : (s : Holdings D) → stays_wrong D s pool d h p ≡ true → StaysWrong D s pool d h p
    stays_wrong_is s e =
        let r = and_true (beq (s h) (not p)) _ e in
        record {
          now = beq_true (s h) (not p) r.0;
          unset = none_both (λ g. wholly_before g d) (λ g. sets D g h p) pool r.1;
        }

    pub is_stays_wrong : (s : Holdings D) → StaysWrong D s pool d h p → stays_wrong D s pool d h p ≡ true
    is_stays_wrong s w =
        and_both
        (beq (s h) (not p))
        _
        (rw w.now (beq_refl (not p)))
        (both_none (λ g. wholly_before g d) (λ g. sets D g h p) pool w.unset)

    -- ---- (b)

    -- x spoils it and nothing mends that
    pub spoils_is :
        (x : Duty) → Mem x pool → spoils D d h p x && not (mended D pool d h p x) ≡ true
        → (w : MadeWrong D pool d h p) × (w.x ≡ x)
    spoils_is x m t =
        let (spoiled, open_still) = and_true (spoils D d h p x) (not (mended D pool d h p x)) t in
        let a = and_true (not (eqb (serial x) (serial d))) _ spoiled in
        let b = and_true (sets D x h (not p)) (not (wholly_before d x)) a.1 in (
          record {
            x = x;
            open_x = m;
            other = eqb-false (serial x) (serial d) (not_true (eqb (serial x) (serial d)) a.0);
            wrong = b.0;
            late = not_true (wholly_before d x) b.1;
            unset = λ g n f k.
                none_both
                (λ g. wholly_before x g && wholly_before g d)
                (λ g. sets D g h p)
                pool
                open_still
                g
                n
                (and_both (wholly_before x g) (wholly_before g d) f k);
          },
          refl,
        )

    pub made_wrong_is : made_wrong D pool d h p ≡ true → MadeWrong D pool d h p
    made_wrong_is e =
        let (x, m, t) = any_true (λ x. spoils D d h p x && not (mended D pool d h p x)) pool e in
        (spoils_is x m t).0

    pub is_made_wrong : MadeWrong D pool d h p → made_wrong D pool d h p ≡ true
    is_made_wrong w =
        any_mem
        (λ x. spoils D d h p x && not (mended D pool d h p x))
        w.open_x
        (and_both
        (spoils D d h p w.x)
        (not (mended D pool d h p w.x))
        (rw (ne_eqb (serial w.x) (serial d) w.other, w.wrong, w.late))
        (both_none
        (λ g. wholly_before w.x g && wholly_before g d)
        (λ g. sets D g h p)
        pool
        (λ g m f.
        let k = and_true (wholly_before w.x g) (wholly_before g d) f in
        w.unset g m k.0 k.1)))

  -- ---- red

  module _ (s : Holdings D) (pool : List Duty) where
    -- the test of one need of d
    abbrev wrong_at : Duty → Holding × Bool → Bool
    wrong_at d n = stays_wrong D s pool d n.0 n.1 || made_wrong D pool d n.0 n.1

    wrong_at_is :
        (d : Duty) → (n : Holding × Bool) × Mem n (needed (asks d)) × (wrong_at d n ≡ true)
        → CanBeWrong D s pool d
    wrong_at_is d ((h, p), m, e) =
        record {
          holding = h;
          value = p;
          need = m;
          why =
              ⊎_elim
              (λ k. inl (stays_wrong_is pool d h p s k))
              (λ k. inr (made_wrong_is pool d h p k))
              (or_true (stays_wrong D s pool d h p) (made_wrong D pool d h p) e);
        }

    is_wrong_at : (d : Duty) (c : CanBeWrong D s pool d) → wrong_at d (c.holding, c.value) ≡ true
    is_wrong_at d c =
        ⊎_elim
        (λ w.
        or_left
        (stays_wrong D s pool d c.holding c.value)
        (made_wrong D pool d c.holding c.value)
        (is_stays_wrong pool d c.holding c.value s w))
        (λ w.
        or_right
        (stays_wrong D s pool d c.holding c.value)
        (made_wrong D pool d c.holding c.value)
        (is_made_wrong pool d c.holding c.value w))
        c.why

    pub red_at_is : (d : Duty) → red_at D s pool d ≡ true → (ruled (asks d) ≡ false) ⊎ CanBeWrong D s pool d
    red_at_is d e =
        ⊎_elim
        (λ f. inl (not_true (ruled (asks d)) f))
        (λ f. inr (wrong_at_is d (any_true (wrong_at d) (needed (asks d)) f)))
        (or_true (not (ruled (asks d))) (any (wrong_at d) (needed (asks d))) e)

    pub is_red_at : (d : Duty) → (ruled (asks d) ≡ false) ⊎ CanBeWrong D s pool d → red_at D s pool d ≡ true
    is_red_at d (inl f) =
        or_left (not (ruled (asks d))) (any (wrong_at d) (needed (asks d))) (not_of_false (ruled (asks d)) f)
    is_red_at d (inr c) =
        or_right
        (not (ruled (asks d)))
        (any (wrong_at d) (needed (asks d)))
        (any_mem (wrong_at d) c.need (is_wrong_at d c))

    pub is_red↔red : (is_red D s pool ≡ true) ↔ Red D s pool
    is_red↔red = (
      λ e.
          let (d, m, f) = any_true (red_at D s pool) pool e in
          record { d = d; open_d = m; why = red_at_is d f },
      λ r. any_mem (red_at D s pool) r.open_d (is_red_at r.d r.why),
    )
