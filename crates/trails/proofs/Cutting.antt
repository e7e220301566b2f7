-- What a walk writes is the theory's cut: while each duty so far was permitted, the sets of roles say who
-- holds what as the world does, and the serials stand in the list one after the other; after the first duty
-- that is not permitted nothing changes.
use mathlib.Core.Path.{◌≡◌, refl, sym, ◌∙◌}
use mathlib.Core.Bool.{Bool, true, false, not, cond}
use mathlib.Core.List.{List, [], ◌∷◌, ◌++◌}
use Prim.Native.Nat.{ℕ, ◌+◌, ◌≤◌, ◌<◌}
use native.Mathlib.Omega.{arith}
use lib.ListN.{length, get_or, drop, length-append}
use lib.Seq.{append_snoc, set_at}
use borrow.Author.Tests.{lt-leb}
use Rattle.orders.specs.Lists.{here, there, keep}
use Rattle.orders.specs.Needs.{met}
use Rattle.orders.specs.Orders.{World}
use Rattle.orders.specs.Trails.{early, between, trail, cut_off}
use Rattle.orders.proofs.Lists.{at_mid, keep_mem}
use Rattle.orders.proofs.Tests.{by_test, and_yes}
use Rattle.permitted.specs.Meets.{meets_sets}
use Rattle.permitted.proofs.Laws.{changed_holdings, changed_length}
use Rattle.permitted.proofs.RuleNeeds.{role_met, rule_met}
use Rattle.asks.specs.Asks.{in_one_form, ask_of}
use Rattle.board.specs.declared.Asked.{Asked}
use Rattle.board.specs.declared.Asked.TheVariants.{Unruled, Role, Meets}
use Rattle.board.specs.declared.Duty.{Duty}
use Rattle.board.specs.Green.{world_of}
use Rattle.board.specs.Limits.{max_users, max_roles}
use Rattle.board.specs.Permitted.{held_in, asked_for, needs, changed}
use Rattle.board.specs.View.{View}
use Rattle.board.proofs.RolesIn.{no_roles}
use Rattle.trails.specs.Walking.{Walk, meets_ask, do_one, do_all, set_out, trail_of, InRange, serials}

-- ---- what is asked in one form is met where the needs are

nothing_asked : (set : ℕ) → meets_sets set 0 0 ≡ true
nothing_asked set = rw no_roles

ask_met :
    (sets : List ℕ) (doer : ℕ) (asked : Asked)
    → meets_ask sets doer (in_one_form doer asked) ≡ met (held_in sets) (needs doer asked)
ask_met sets doer Unruled = refl
ask_met sets doer (Role role) =
    let holds = held_in sets (doer, role) in
    rw (nothing_asked (get_or sets doer 0)) (and_yes holds ∙ sym (role_met (held_in sets) doer role))
ask_met sets doer (Meets target rule) = sym (rule_met sets doer target rule)

-- ---- a walk writes the cut

-- these are written from the start of rest on, first being written before
record Wrote (first rest : List ℕ) (cut : List Duty) (w : Walk × List ℕ) : Type 0 where
  counted : w.0.length ≡ length first + length cut
  list : w.1 ≡ first ++ (serials cut ++ drop (length cut) rest)

module _ (v : View) where
  abbrev W : World
  W = world_of v

  -- ---- a stuck walk stays as it is

  abbrev stopped : List ℕ → ℕ → List ℕ → Walk × List ℕ
  stopped sets n list = (record { holdings = sets; length = n; stuck = true }, list)

  stays :
      (sets : List ℕ) (n : ℕ) (list : List ℕ) (l : List Duty)
      → do_all (ask_of v) (stopped sets n list) l ≡ stopped sets n list
  unfolding do_one do_all
  stays sets n list [] = refl
  stays sets n list (y ∷ l) = stays sets n list l

  -- ---- one duty more

  -- y is permitted with these sets of roles
  abbrev permitted_with : List ℕ → Duty → Bool
  permitted_with sets y = met (held_in sets) (needs y.doer (asked_for v.permissions v.rules y.what))

  module _ (w : Walk) (first rest : List ℕ) (y : Duty) where
    -- its serial is written after those before
    abbrev then : List ℕ
    then = first ++ (y.serial.0 ∷ [])

    abbrev walk_then : Bool → Walk
    walk_then permitted =
        record {
          holdings = cond permitted (changed w.holdings y.what) w.holdings;
          length = w.length + 1;
          stuck = not permitted;
        }

    one :
        (z : ℕ) (permitted : Bool) → w.stuck ≡ false → w.length ≡ length first
        → permitted_with w.holdings y ≡ permitted
        → do_one (ask_of v y) (w, first ++ (z ∷ rest)) y ≡ (walk_then permitted, then ++ rest)
    unfolding do_one
    one z permitted e p t =
        let more = length-append first (z ∷ rest) in
        let room : w.length < length (first ++ (z ∷ rest)) = omega arith in
        rw (
          e,
          lt-leb (length (first ++ (z ∷ rest))) w.length room,
          ask_met w.holdings y.doer (asked_for v.permissions v.rules y.what),
          t,
          set_at first z rest y.serial.0 w.length (sym p),
          append_snoc first y.serial.0 rest,
        )

    more :
        (z : ℕ) (cut : List Duty) (u : Walk × List ℕ) → Wrote then rest cut u
        → Wrote first (z ∷ rest) (y ∷ cut) u
    more z cut u r =
        record {
          counted = omega (arith, r.counted, length-append first (y.serial.0 ∷ []));
          list = r.list ∙ append_snoc first y.serial.0 (serials cut ++ drop (length cut) rest);
        }

  -- ---- all of them

  -- a walk that is not stuck writes the duties up to the first that is not permitted
  writes :
      (w : Walk) (first rest : List ℕ) (l : List Duty) → w.stuck ≡ false
      → length w.holdings ≡ max_users → InRange l → w.length ≡ length first
      → length (cut_off W (held_in w.holdings) l) ≤ length rest
      → Wrote first rest (cut_off W (held_in w.holdings) l) (do_all (ask_of v) (w, first ++ rest) l)
  unfolding do_all
  writes w first rest [] e s r p h = record { counted = omega arith; list = refl }
  writes w first [] (y ∷ l) e s r p h = absurd (omega arith)
  writes w first (z ∷ rest) (y ∷ l) e s r p h =
      let after = then w first rest y in
      let longer = length-append first (y.serial.0 ∷ []) in
      by_test
      (permitted_with w.holdings y)
      (λ t.
      let held =
      changed_holdings
      v.permissions
      v.rules
      w.holdings
      max_users
      max_roles
      (omega arith)
      (omega arith)
      y.what
      (r y (here refl)) in
      rw
      (one w first rest y z true e p t, t, ← held)
      (more w first rest y z _ _
      (writes
      (walk_then w first rest y true)
      after
      rest
      l
      refl
      (changed_length w.holdings y.what ∙ s)
      (λ x m. r x (there m))
      (omega arith)
      (omega (arith, rw (t, ← held) at h)))))
      (λ f.
      rw
      (one w first rest y z false e p f, f, stays w.holdings (w.length + 1) (after ++ rest) l)
      (more w first rest y z [] _ (record { counted = omega arith; list = refl })))

  -- ---- the trail of x and d

  module _ (pool : List Duty) (x d : Duty) where
    trail_range : InRange (x ∷ (d ∷ pool)) → InRange (trail_of pool x d)
    trail_range range y =
        at_mid
        (keep (early W x d) pool)
        (λ m. range y (there (there (keep_mem _ pool m).0)))
        (λ q. rw q (range x (here refl)))
        (at_mid
        (keep (between W x d) pool)
        (λ m. range y (there (there (keep_mem _ pool m).0)))
        (λ q. rw q (range d (there (here refl))))
        (λ m. elim m [ ]))

    -- The walk along it writes the trail cut after the first duty that is not permitted.
    pub trail_written :
        (sets list : List ℕ) → length sets ≡ max_users → InRange (x ∷ (d ∷ pool)) →
        let cut = cut_off W (held_in sets) (trail W pool x d) in
        length cut ≤ length list →
        let w = do_all (ask_of v) (set_out sets list) (trail_of pool x d) in
        (w.1 ≡ serials cut ++ drop (length cut) list) × (w.0.length ≡ length cut)
    trail_written sets list sized range room =
        let start = (set_out sets list).0 in
        let wrote = writes start [] list (trail_of pool x d) refl sized (trail_range range) refl room in
        (wrote.list, omega (arith, wrote.counted))
