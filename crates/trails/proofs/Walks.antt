-- Walks through duties, part after part: what is left of a part takes a walk to the same end as the whole
-- part does from its start, and the four parts of a trail make up the trail.
use mathlib.Core.Path.{◌≡◌, refl, sym, ap, ◌∙◌}
use mathlib.Core.Bool.{Bool, true, false, ◌||◌}
use mathlib.Core.List.{List, [], ◌∷◌, ◌++◌}
use Rattle.std.specs.Prelude.{Option, None, Some}
use Prim.Native.Nat.{ℕ, suc, ◌+◌, ◌≤◌, ◌<◌}
use native.Mathlib.Numerals.{add-one}
use native.Mathlib.Omega.{arith}
use lib.Dec.{eqb, leb}
use lib.ListN.{length, drop, get_or, length-set, drop_of_length-le}
use lib.Seq.{drop-cons, take-length}
use borrow.Author.Tests.{eq-eqb}
use Rattle.orders.specs.Lists.{Mem, keep}
use Rattle.orders.proofs.Loops.{take_mem, mem_take}
use Rattle.orders.proofs.Tests.{by_test, clash}
use Rattle.asks.specs.declared.Ask.{Ask}
use Rattle.asks.specs.Asks.{AskedBy}
use Rattle.board.specs.declared.Duty.{Duty}
use Rattle.board.specs.Filler.{no_duty}
use Rattle.in_order.specs.InOrder.{place_in_key, by_keys}
use Rattle.in_order.proofs.ByKeys.{as_many, at_key}
use Rattle.trails.specs.Walking.{Walk, in_trail, trail_of, do_one, do_all, set_out}
use Rattle.trails.specs.Walking.{ask_at, AskedInTurn, PartDone, Found, OfThese, Walked}

-- ---- one duty, and one part after another

one_keeps : (ask : Option Ask) (w : Walk × List ℕ) (y : Duty) → length (do_one ask w y).1 ≡ length w.1
unfolding do_one
one_keeps ask w y =
    by_test
    (w.0.stuck || leb (length w.1) w.0.length)
    (λ e. rw e)
    (λ e. rw e (length-set w.1 w.0.length y.serial.0))

-- a walk that is stuck stays as it is
pub one_stays : (ask : Option Ask) (w : Walk × List ℕ) (y : Duty) → w.0.stuck ≡ true → do_one ask w y ≡ w
unfolding do_one
one_stays ask w y e = rw e refl

pub all_stay :
    (asked : Duty → Option Ask) (w : Walk × List ℕ) (l : List Duty) → w.0.stuck ≡ true → do_all asked w l ≡ w
unfolding do_all
all_stay asked w [] e = refl
all_stay asked w (y ∷ l) e = rw (one_stays (asked y) w y e) (all_stay asked w l e)

do_append :
    (asked : Duty → Option Ask) (w : Walk × List ℕ) (l m : List Duty)
    → do_all asked w (l ++ m) ≡ do_all asked (do_all asked w l) m
unfolding do_all
do_append asked w [] m = refl
do_append asked w (y ∷ l) m = do_append asked (do_one (asked y) w y) l m

-- ---- the loop of `do_part`: those duties of an order that pass a test

-- the duties below place k are behind the walk
pub record Passed
    (order : List Duty) (asks : ℕ → Option Ask) (passes : Duty → Bool) (start now : Walk × List ℕ) (k : ℕ)
    : Type 0
  where
    pub same :
        (asked : Duty → Option Ask) → AskedInTurn asked order asks
        → do_all asked now (keep passes (drop k order)) ≡ do_all asked start (keep passes order)

module _ {order : List Duty} {asks : ℕ → Option Ask} {passes : Duty → Bool} {start : Walk × List ℕ} where
  pub begun : Passed order asks passes start start 0
  begun = record { same = λ asked are. refl }

  module _
      {now : Walk × List ℕ} {k : ℕ} (passed : Passed order asks passes start now k) (h : k < length order)
      (y : Duty) (is : get_or order k no_duty ≡ y)
    where
      left : drop k order ≡ y ∷ drop (k + 1) order
      left = rw (add-one k) (drop-cons order k no_duty h ∙ ap (λ (z : Duty). z ∷ drop (suc k) order) is)

      pub turn_done :
          passes y ≡ true → (then : Walk × List ℕ) → then ≡ do_one (asks k) now y
          → Passed order asks passes start then (k + 1)
      unfolding do_all
      turn_done t then e =
          record { same = λ asked are. rw (e, are k h, is) (rw (left, t) at (passed.same asked are)) }

      pub turn_skips : passes y ≡ false → Passed order asks passes start now (k + 1)
      turn_skips f = record { same = λ asked are. rw (left, f) at (passed.same asked are) }

      -- the walk gets stuck
      pub turn_stuck :
          passes y ≡ true → (then : Walk × List ℕ) → then ≡ do_one (asks k) now y → then.0.stuck ≡ true
          → PartDone order asks passes start then
      turn_stuck t then e s asked are =
          sym (all_stay asked then (keep passes (drop (k + 1) order)) s) ∙ (turn_done t then e).same asked are

  pub part_done :
      {now : Walk × List ℕ} {k : ℕ} → length order ≤ k → Passed order asks passes start now k
      → PartDone order asks passes start now
  unfolding do_all
  part_done {k = k} h passed asked are =
      rw (drop_of_length-le order {i = k} h) at (passed.same asked are)

-- the key at a place is one of all, and its duty is the one at the key's place
pub at_turn :
    (duties : List Duty) (keys : List ℕ) (k : ℕ) → k < length keys
    → (k < length (by_keys duties (length keys) keys))
    × (get_or (by_keys duties (length keys) keys) k no_duty
    ≡ get_or duties (place_in_key (get_or keys k 0)) no_duty)
at_turn duties keys k h =
    (omega (arith, as_many duties (length keys) keys), at_key duties (length keys) keys k h h)

-- where the duty at each place has another serial, none has this one
pub nowhere :
    (duties : List Duty) (serial : ℕ)
    → ((k : ℕ) (d : Duty) → 0 ≤ k → k < length duties → eqb (get_or duties k d).serial.0 serial ≡ false)
    → (y : Duty) → Mem y duties → y.serial.0 ≡ serial → ⊥
nowhere duties serial other y m e =
    let (k, h, l, is) = mem_take duties (length duties) no_duty (rw (← take-length duties) at m) in
    clash (eq-eqb _ _ e) (rw is at (other k no_duty (omega arith) h))

-- ---- the trail of two duties

module _ (asked : Duty → Option Ask) (pool : List Duty) (x d : Duty) (start : Walk × List ℕ) where
  abbrev part : Bool → List Duty
  part late = keep (in_trail late x d) pool

  -- the four parts in turn
  abbrev one_part : Walk × List ℕ
  one_part = do_all asked start (part false)

  abbrev two_parts : Walk × List ℕ
  two_parts = do_one (asked x) one_part x

  abbrev three_parts : Walk × List ℕ
  three_parts = do_all asked two_parts (part true)

  four_parts : do_one (asked d) three_parts d ≡ do_all asked start (trail_of pool x d)
  unfolding do_all
  four_parts =
      sym (do_append asked start (part false) (x ∷ (part true ++ (d ∷ [])))
      ∙ do_append asked (do_one (asked x) (do_all asked start (part false)) x) (part true) (d ∷ []))

  -- or the walk is stuck after some of them
  stuck_one : one_part.0.stuck ≡ true → one_part ≡ do_all asked start (trail_of pool x d)
  stuck_one e =
      sym
      (rw (one_stays (asked x) one_part x e, all_stay asked one_part (part true) e)
      (one_stays (asked d) one_part d e))
      ∙ four_parts

  stuck_two : two_parts.0.stuck ≡ true → two_parts ≡ do_all asked start (trail_of pool x d)
  stuck_two e =
      sym (rw (all_stay asked two_parts (part true) e) (one_stays (asked d) two_parts d e)) ∙ four_parts

  stuck_three : three_parts.0.stuck ≡ true → three_parts ≡ do_all asked start (trail_of pool x d)
  stuck_three e = sym (one_stays (asked d) three_parts d e) ∙ four_parts

module _ (duties : List Duty) (asks : List (Option Ask)) (keys sets : List ℕ) (spoiler stuck : ℕ)
    (before : List ℕ) where
  -- where one of the two is missing, nothing is said
  pub no_spoiler :
      {found : Option (Duty × Option Ask)} → Found duties asks spoiler found → found ≡ None
      → (w : Walk × List ℕ) → Walked duties asks keys sets spoiler stuck before w
  no_spoiler x_at e w asked x d are inside unique x_in x_is d_in d_is =
      let missed : Found duties asks spoiler None = rw e at x_at in
      absurd (missed x x_in x_is)

  pub no_stuck :
      {found : Option (Duty × Option Ask)} → Found duties asks stuck found → found ≡ None
      → (w : Walk × List ℕ) → Walked duties asks keys sets spoiler stuck before w
  no_stuck d_at e w asked x d are inside unique x_in x_is d_in d_is =
      let missed : Found duties asks stuck None = rw e at d_at in
      absurd (missed d d_in d_is)

  abbrev order : List Duty
  order = by_keys duties (length keys) keys

  -- what is asked for the duties is asked for them in the order of the keys
  asked_in_order :
      (asked : Duty → Option Ask) → AskedBy asked duties (length duties) asks
      → OfThese duties keys → AskedInTurn asked order (ask_at asks keys)
  asked_in_order asked are inside k h =
      let key : k < length keys = omega (arith, as_many duties (length keys) keys, h) in
      are (place_in_key (get_or keys k 0)) (inside k key)
      ∙ ap asked (sym (at_key duties (length keys) keys k key key))

  -- the duty with a serial is the one found, and so is what is asked for it
  record Known (asked : Duty → Option Ask) (found : Duty × Option Ask) (y : Duty) : Type 0 where
    duty : found.0 ≡ y
    ask : found.1 ≡ asked y

  known :
      (asked : Duty → Option Ask) → AskedBy asked duties (length duties) asks
      → ((y z : Duty) → Mem y duties → Mem z duties → y.serial.0 ≡ z.serial.0 → y ≡ z)
      → {serial : ℕ} {found : Duty × Option Ask} → Found duties asks serial (Some found)
      → (y : Duty) → Mem y duties → y.serial.0 ≡ serial → Known asked found y
  known asked are unique {found = found} (place, h, is, ask, named) y m e =
      let here = rw (take-length duties) at (take_mem duties (length duties) place no_duty h h) in
      let same = unique found.0 y (rw is here) m (named ∙ sym e) in
      record { duty = same; ask = ask ∙ are place h ∙ ap asked (sym is ∙ same) }

  module _ {x_found d_found : Duty × Option Ask} (x_at : Found duties asks spoiler (Some x_found))
      (d_at : Found duties asks stuck (Some d_found)) where
    abbrev Part : Bool → Walk × List ℕ → Walk × List ℕ → Type 0
    Part late from to = PartDone order (ask_at asks keys) (in_trail late x_found.0 d_found.0) from to

    module _ {first : Walk × List ℕ} (p : Part false (set_out sets before) first) where
      first_is :
          (asked : Duty → Option Ask) → AskedBy asked duties (length duties) asks
          → OfThese duties keys → {x d : Duty} → Known asked x_found x
          → Known asked d_found d
          → first ≡ one_part asked order x d (set_out sets before)
      first_is asked are inside at_x at_d =
          rw (at_x.duty, at_d.duty) at (p asked (asked_in_order asked are inside))

      pub stuck_first : first.0.stuck ≡ true → Walked duties asks keys sets spoiler stuck before first
      stuck_first s asked x d are inside unique x_in x_is d_in d_is =
          let at_x = known asked are unique x_at x x_in x_is in
          let at_d = known asked are unique d_at d d_in d_is in
          let e = first_is asked are inside at_x at_d in
          e ∙ stuck_one asked order x d (set_out sets before) (rw e at s)

      module _ {second : Walk × List ℕ} (q : second ≡ do_one x_found.1 first x_found.0) where
        second_is :
            (asked : Duty → Option Ask) → AskedBy asked duties (length duties) asks
            → OfThese duties keys → {x d : Duty} → Known asked x_found x
            → Known asked d_found d → second ≡ two_parts asked order x d (set_out sets before)
        second_is asked are inside at_x at_d =
            rw (at_x.duty, at_x.ask, first_is asked are inside at_x at_d) at q

        pub stuck_second : second.0.stuck ≡ true → Walked duties asks keys sets spoiler stuck before second
        stuck_second s asked x d are inside unique x_in x_is d_in d_is =
            let at_x = known asked are unique x_at x x_in x_is in
            let at_d = known asked are unique d_at d d_in d_is in
            let e = second_is asked are inside at_x at_d in
            e ∙ stuck_two asked order x d (set_out sets before) (rw e at s)

        module _ {third : Walk × List ℕ} (r : Part true second third) where
          third_is :
              (asked : Duty → Option Ask) → AskedBy asked duties (length duties) asks
              → OfThese duties keys → {x d : Duty} → Known asked x_found x
              → Known asked d_found d → third ≡ three_parts asked order x d (set_out sets before)
          third_is asked are inside at_x at_d =
              rw
              (at_x.duty, at_d.duty, second_is asked are inside at_x at_d)
              at (r asked (asked_in_order asked are inside))

          pub stuck_third : third.0.stuck ≡ true → Walked duties asks keys sets spoiler stuck before third
          stuck_third s asked x d are inside unique x_in x_is d_in d_is =
              let at_x = known asked are unique x_at x x_in x_is in
              let at_d = known asked are unique d_at d d_in d_is in
              let e = third_is asked are inside at_x at_d in
              e ∙ stuck_three asked order x d (set_out sets before) (rw e at s)

          pub walked :
              {last : Walk × List ℕ} → last ≡ do_one d_found.1 third d_found.0
              → Walked duties asks keys sets spoiler stuck before last
          walked t asked x d are inside unique x_in x_is d_in d_is =
              let at_x = known asked are unique x_at x x_in x_is in
              let at_d = known asked are unique d_at d d_in d_is in
              (rw (at_d.duty, at_d.ask, third_is asked are inside at_x at_d) at t)
              ∙ four_parts asked order x d (set_out sets before)
