-- Pairs of numbers below 65536 are ordered, by the first and then by the second, as the numbers that they
-- make.
use mathlib.Core.Path.{◌≡◌}
use Prim.Native.Nat.{ℕ, ◌<◌}
use native.Mathlib.Omega.{arith}
use lib.Dec.{eqb, ltb}
use borrow.Author.Tests.{eqb-true, eqb-false, ltb-true, ltb-false, lt-ltb, le-ltb}
use Rattle.orders.proofs.Tests.{by_test, same_test}
use Rattle.board.specs.Good.{pair_below}
use Rattle.records.specs.Pairs.{join}

pub joined_below : (a b c d : ℕ) → b < 65536 → d < 65536 → pair_below a b c d ≡ ltb (join a b) (join c d)
joined_below a b c d small_b small_d =
    by_test (ltb a c)
    (λ e. let h = ltb-true a c e in rw (e, lt-ltb (join a b) (join c d) (omega arith)))
    (λ e.
    let h = ltb-false a c e in
    by_test (eqb a c)
    (λ f.
    let k = eqb-true a c f in
    rw (e, f)
    (same_test _ _
    (λ t. let m = ltb-true b d t in lt-ltb (join a b) (join c d) (omega arith))
    (λ t. let m = ltb-true (join a b) (join c d) t in lt-ltb b d (omega arith))))
    (λ f. let k = eqb-false a c f in rw (e, f, le-ltb (join a b) (join c d) (omega arith))))
