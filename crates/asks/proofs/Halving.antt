-- A search by halving among numbers: the place is not before low, and at most so many places beyond it. A
-- turn halves what is left, and where nothing is left the place is found.
use mathlib.Core.Path.{◌≡◌}
use mathlib.Core.List.{List}
use Prim.Native.Nat.{ℕ, ◌+◌, ◌-◌, ◌*◌, ◌≤◌, ◌<◌}
use native.Mathlib.Omega.{arith}
use lib.Dec.{ltb}
use lib.ListN.{get_or}
use borrow.Author.Tests.{ltb-true, ltb-false}
use Rattle.orders.proofs.Tests.{by_test}
use Rattle.asks.specs.Halved.{Halved}

-- The one before low is below what is sought, and the one at high is not: high is the last place that is
-- left, or the one before it, since a turn that goes down may leave one place too many.
pub record Between (keys : List ℕ) (n sought low left : ℕ) : Type 0 where
  pub high : ℕ
  pub ordered : low ≤ high
  pub last : high ≤ low + left
  pub nearly : low + left ≤ high + 1
  pub within : low + left ≤ n
  pub lower : (i : ℕ) → i + 1 ≡ low → get_or keys i 0 < sought
  pub higher : high < n → sought ≤ get_or keys high 0

module _ {keys : List ℕ} {n sought : ℕ} where
  pub starts : Between keys n sought 0 n
  starts =
      record {
        high = n;
        ordered = omega arith;
        last = omega arith;
        nearly = omega arith;
        within = omega arith;
        lower = λ i e. omega arith;
        higher = λ h. omega arith;
      }

  -- a turn looks at the last of the lower half
  module _ {low left half : ℕ} (known : Between keys n sought low left) (some : 0 < half)
      (few : half ≤ left) where
    abbrev middle : ℕ
    middle = low + half - 1

    -- it is below, so the place is beyond it
    pub goes_up : get_or keys middle 0 < sought → Between keys n sought (low + half) (left - half)
    goes_up h =
        let high = known.high in
        by_test
        (ltb middle high)
        (λ t.
        let beyond = ltb-true middle high t in
        record {
          high = high;
          ordered = omega arith;
          last = omega arith;
          nearly = omega arith;
          within = omega arith;
          lower = λ i e. let same : i ≡ middle = omega arith in rw same h;
          higher = known.higher;
        })
        (λ f.
        let same : high ≡ middle = omega (arith, ltb-false middle high f) in
        let not_below : sought ≤ get_or keys middle 0 = rw same at (known.higher (omega arith)) in
        absurd (omega arith))

    -- it is not, so the place is at most there
    pub goes_down :
        half + half ≤ left + 1 → left ≤ half + half → sought ≤ get_or keys middle 0
        → Between keys n sought low (left - half)
    goes_down most least h =
        record {
          high = middle;
          ordered = omega arith;
          last = omega arith;
          nearly = omega arith;
          within = omega arith;
          lower = known.lower;
          higher = λ k. h;
        }

  -- whichever it is, the number below says so
  pub turns :
      {low left half : ℕ} (next below : ℕ) → Between keys n sought low left → 0 < half → half ≤ left
      → half + half ≤ left + 1 → left ≤ half + half → next ≡ get_or keys (low + half - 1) 0
      → (next < sought → below ≡ 1) → (sought ≤ next → below ≡ 0)
      → Between keys n sought (low + half * below) (left - half)
  turns {low} {left} {half} next below known some few most least is one none =
      by_test
      (ltb next sought)
      (λ t.
      let less = ltb-true next sought t in
      let all : half * below ≡ half = rw (one less) (omega arith) in
      rw all (goes_up known some few (omega arith)))
      (λ f.
      let no_less = ltb-false next sought f in
      let nothing : low + half * below ≡ low = rw (none no_less) (omega arith) in
      rw nothing (goes_down known some few most least (omega arith)))

  pub ends :
      {low left pair : ℕ} → Between keys n sought low left → left ≤ 0 → sought ≡ pair
      → Halved keys n pair low
  ends {low} {left} known h e =
      let same : low ≡ known.high = omega arith in
      rw (← e)
      (record {
        inside = omega arith;
        lower = known.lower;
        higher = λ k. rw same (known.higher (omega arith));
      })
