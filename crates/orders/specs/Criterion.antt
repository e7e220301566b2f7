-- Document 01's quick criterion for a red board: some duty has no permission or rule, or some holding that it
-- needs can be wrong before it. That it says red exactly where the board is not green is proved in
-- proofs/Fact.antt.
use Rattle.std.specs.Prelude.{◌≡◌, ◌≢◌, ◌⊎◌, Bool, true, false, not, ◌&&◌, ◌||◌, List, eqb}
use Rattle.std.specs.Bool.{beq}
use Rattle.orders.specs.Lists.{Mem, any}
use Rattle.orders.specs.Needs.{Duties, Holdings, ruled, needed, sets}

module _ (D : Duties) where
  open D use {Duty, Holding, serial, wholly_before, asks}

  -- (a) it is wrong now, and no duty wholly before d sets it right
  pub record StaysWrong (s : Holdings D) (pool : List Duty) (d : Duty) (h : Holding) (p : Bool) : Type 0 where
    pub now : s h ≡ not p
    pub unset : (g : Duty) → Mem g pool → wholly_before g d ≡ true → sets D g h p ≡ false

  -- (b) another duty x that sets it wrong, and that d is not wholly before, has no duty setting it right that
  -- x is wholly before and that is wholly before d
  pub record MadeWrong (pool : List Duty) (d : Duty) (h : Holding) (p : Bool) : Type 0 where
    pub x : Duty
    pub open_x : Mem x pool
    pub other : serial x ≢ serial d
    pub wrong : sets D x h (not p) ≡ true
    pub late : wholly_before d x ≡ false
    pub unset :
        (g : Duty) → Mem g pool → wholly_before x g ≡ true → wholly_before g d ≡ true → sets D g h p ≡ false

  -- d needs h to be p, and that can be wrong before d
  pub record CanBeWrong (s : Holdings D) (pool : List Duty) (d : Duty) : Type 0 where
    pub holding : Holding
    pub value : Bool
    pub need : Mem (holding, value) (needed (asks d))
    pub why : StaysWrong s pool d holding value ⊎ MadeWrong pool d holding value

  -- Some duty has no permission or rule, or some holding that it needs can be wrong before it.
  pub record Red (s : Holdings D) (pool : List Duty) : Type 0 where
    pub d : Duty
    pub open_d : Mem d pool
    pub why : (ruled (asks d) ≡ false) ⊎ CanBeWrong s pool d

  -- ---- the same as tests

  abbrev pub stays_wrong : Holdings D → List Duty → Duty → Holding → Bool → Bool
  stays_wrong s pool d h p = beq (s h) (not p) && not (any (λ g. wholly_before g d && sets D g h p) pool)

  -- x is another duty that sets it wrong, and d is not wholly before x
  abbrev pub spoils : Duty → Holding → Bool → Duty → Bool
  spoils d h p x = not (eqb (serial x) (serial d)) && (sets D x h (not p) && not (wholly_before d x))

  -- some duty between x and d sets it right
  abbrev pub mended : List Duty → Duty → Holding → Bool → Duty → Bool
  mended pool d h p x = any (λ g. (wholly_before x g && wholly_before g d) && sets D g h p) pool

  abbrev pub made_wrong : List Duty → Duty → Holding → Bool → Bool
  made_wrong pool d h p = any (λ x. spoils d h p x && not (mended pool d h p x)) pool

  abbrev pub red_at : Holdings D → List Duty → Duty → Bool
  red_at s pool d =
      not (ruled (asks d))
      || any (λ n. stays_wrong s pool d n.0 n.1 || made_wrong pool d n.0 n.1) (needed (asks d))

  abbrev pub is_red : Holdings D → List Duty → Bool
  is_red s pool = any (red_at s pool) pool
