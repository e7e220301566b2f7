-- A loop over the first n members of a list that stops at the list's end too: what its test tells in a turn
-- and at the end.
use mathlib.Core.Path.{◌≡◌, sym, ◌∙◌}
use mathlib.Core.Logic.{◌⊎◌, inl, inr, ⊎_elim}
use mathlib.Core.Bool.{true, false, ◌&&◌}
use mathlib.Core.List.{List}
use Prim.Native.Nat.{ℕ, ◌≤◌, ◌<◌, min}
use native.Mathlib.Omega.{arith}
use lib.Dec.{ltb}
use lib.ListN.{length, take, length-take}
use lib.Seq.{take_all, take-take}
use borrow.Author.Tests.{ltb-true, ltb-false}
use Rattle.orders.proofs.Tests.{by_test, and_true}

pub goes_on : (i n room : ℕ) → ltb i n && ltb i room ≡ true → (i < n) × (i < room)
goes_on i n room t =
    let r = and_true (ltb i n) (ltb i room) t in
    (ltb-true i n r.0, ltb-true i room r.1)

pub stops : (i n room : ℕ) → ltb i n && ltb i room ≡ false → (n ≤ i) ⊎ (room ≤ i)
stops i n room e =
    by_test (ltb i n) (λ t. inr (ltb-false i room (rw t at e))) (λ f. inl (ltb-false i n f))

module _ {A : Type 0} (l : List A) (n i : ℕ) {room : ℕ} (long : length l ≡ room) where
  -- there is a member at place i, and it is one of the first n
  pub in_turn : ltb i n && ltb i room ≡ true → i < min n (length l)
  in_turn t = let r = goes_on i n room t in omega arith

  -- none of the first n is left
  pub at_end : ltb i n && ltb i room ≡ false → min n (length l) ≤ i
  at_end e = ⊎_elim (λ k. omega arith) (λ k. omega arith) (stops i n room e)

-- the first i are then the first n
pub same_first :
    {A : Type 0} (l : List A) (i n : ℕ) → i ≤ n → min n (length l) ≤ i → take i l ≡ take n l
same_first l i n h k = sym (take-take i n l h) ∙ take_all i (take n l) (rw length-take k)
