-- Two pairs in one number each are equal exactly if the pairs are.
use mathlib.Core.Path.{◌≡◌}
use mathlib.Core.Bool.{◌&&◌}
use Prim.Native.Nat.{ℕ, ◌+◌, ◌*◌, ◌<◌}
use native.Mathlib.Omega.{arith}
use lib.Dec.{eqb}
use borrow.Author.Tests.{eqb-true, eq-eqb}
use Rattle.orders.proofs.Tests.{same_test, and_left, and_right, and_both}
use Rattle.permitted.proofs.is_for.Goals as goal

one_is_both :
    (a b c d x y : ℕ) → (x ≡ a + b * 65536) × (a < 65536) → (y ≡ c + d * 65536) × (c < 65536)
    → eqb x y ≡ eqb a c && eqb b d
one_is_both a b c d x y p q =
    same_test (eqb x y) (eqb a c && eqb b d)
    (λ e.
    let same = eqb-true x y e in
    and_both (eqb a c) (eqb b d)
    (eq-eqb a c (omega (arith, p, q, same)))
    (eq-eqb b d (omega (arith, p, q, same))))
    (λ e.
    let first = eqb-true a c (and_left (eqb a c) (eqb b d) e) in
    let second = eqb-true b d (and_right (eqb a c) (eqb b d) e) in
    eq-eqb x y (omega (arith, p, q, first, second)))

pub returns : goal.returns
returns c =
    one_is_both c.args.p.action c.args.p.object c.args.action c.args.object _ _ c.in_one.ensures
    c.in_one-2.ensures
