-- What a request asks for, told by its numbers: the test of 11 (`doing_fits`) passes exactly if document 01's
-- words hold of the numbers (`Asks`), and then there is one thing that they ask for, `what_of`.
use mathlib.Core.Path.{◌≡◌, refl, subst}
use mathlib.Core.Bool.{Bool, true, false, ◌||◌, cond}
use Prim.Native.Nat.{ℕ, ◌<◌}
use native.Mathlib.Omega.{arith}
use lib.Dec.{eqb}
use borrow.Author.Tests.{eqb-true, eq-eqb, ne_eqb, ltb-true, leb-true, lt-ltb, le-leb}
use Rattle.orders.proofs.Tests.{is_true, and_left, and_right, and_both, or_right}
use Rattle.board.specs.declared.What.{What}
use Rattle.board.specs.declared.What.TheVariants.{Grant, Revoke, Use}
use Rattle.board.specs.Doing.{what_of, second_fits}
use Rattle.board.specs.Good.{what_fits}
use Rattle.board.specs.View.{View}
use Rattle.requests.specs.Requests.{doing_fits}
use Rattle.promises.specs.May.{Asks, AsksChange}

module _ (v : View) (action first second : ℕ) where
  asks_change :
      what_fits v.users v.roles (Grant first second) ≡ true → AsksChange v first second first second
  asks_change fits =
      record {
        target_is = refl;
        role_is = refl;
        target_known = ltb-true first v.users (search and_left);
        role_known = ltb-true second v.roles (search and_right);
      }

  asks_by :
      (grant revoke : Bool) → eqb action 0 ≡ grant → eqb action 1 ≡ revoke
      → what_fits v.users v.roles
      (cond grant (Grant first second) (cond revoke (Revoke first second) (Use action first))) ≡ true
      → (grant || revoke) || eqb second 0 ≡ true
      → Asks v action first second
      (cond grant (Grant first second) (cond revoke (Revoke first second) (Use action first)))
  asks_by true revoke g r fits zero = (eqb-true action 0 g, asks_change fits)
  asks_by false true g r fits zero = (eqb-true action 1 r, asks_change fits)
  asks_by false false g r fits zero =
      record {
        action_is = refl;
        object_is = refl;
        second_is = eqb-true second 0 zero;
        from_two = leb-true 2 action (search and_left);
        action_known = search (and_left, and_right, ltb-true);
        object_known = search (and_left, and_right, ltb-true);
      }

  -- the test passes: the numbers ask for what they say
  pub asks_what :
      (doer : ℕ) → (doing_fits v.users v.roles doer action first second ≡ false → ⊥)
      → (doer < v.users) × Asks v action first second (what_of action first second)
  asks_what doer f =
      let e = is_true (doing_fits v.users v.roles doer action first second) f in (
        ltb-true doer v.users (search and_left),
        asks_by (eqb action 0) (eqb action 1) refl refl (search (and_left, and_right)) (search and_right),
      )

  -- the numbers ask for nothing else,
  pub asks_one : (what : What) → Asks v action first second what → what ≡ what_of action first second
  asks_one (Grant target role) a = rw (a.0, a.1.target_is, a.1.role_is)
  asks_one (Revoke target role) a = rw (a.0, a.1.target_is, a.1.role_is)
  asks_one (Use other object) a =
      let two = a.from_two in
      let is = a.action_is in
      rw (ne_eqb action 0 (λ e. omega arith), ne_eqb action 1 (λ e. omega arith), a.action_is, a.object_is)

  pub asks_fit : (what : What) → Asks v action first second what → what_fits v.users v.roles what ≡ true
  asks_fit (Grant target role) a = search (and_both, lt-ltb)
  asks_fit (Revoke target role) a = search (and_both, lt-ltb)
  asks_fit (Use other object) a = search (and_both, lt-ltb, le-leb)

  second_fits_lem : (what : What) → Asks v action first second what → second_fits action second ≡ true
  second_fits_lem (Grant target role) a = rw a.0
  second_fits_lem (Revoke target role) a = rw a.0
  second_fits_lem (Use other object) a =
      or_right (eqb action 0 || eqb action 1) (eqb second 0) (eq-eqb second 0 a.second_is)

  -- and the test passes
  pub asked_fits :
      (doer : ℕ) (what : What) → doer < v.users → Asks v action first second what
      → doing_fits v.users v.roles doer action first second ≡ true
  asked_fits doer what h a =
      let told : what_fits v.users v.roles (what_of action first second) ≡ true =
      subst (λ (w : What). what_fits v.users v.roles w ≡ true) (asks_one what a) (asks_fit what a) in
      let second_fit = second_fits_lem what a in
      let known = lt-ltb doer v.users h in
      search and_both
