-- The records of a part of the file, by number: how many they are, whether all fit, whether they rise. And a
-- list that is filled with them from the front, with filler in the rest of the room: each turn of a loop that
-- fills writes the next record in the place of the first filler.
use mathlib.Core.Path.{◌≡◌, refl, sym, ◌∙◌, ap}
use mathlib.Core.Bool.{Bool, true, false}
use mathlib.Core.List.Memᴰ
use mathlib.Core.List.{List, [], ◌∷◌, ◌++◌, map, map-append, append_assoc}
use Prim.Native.Nat.{ℕ, zero, suc, ◌+◌, ◌-◌, ◌≤◌, ◌<◌}
use native.Mathlib.Nat.{sub-zero}
use native.Mathlib.Numerals.{add-one}
use native.Mathlib.Omega.{arith}
use lib.Dec.{eqb}
use lib.ListN.{length, take, drop, set, replicate, length-append, length-map, length-replicate}
use lib.Seq.{set_at, take_at, drop_at}
use borrow.Author.Tests.{ne_eqb}
use Rattle.orders.specs.Lists.{Mem, all}
use Rattle.orders.proofs.Lists.{all_in}
use Rattle.orders.proofs.Tests.{and_true, and_both}
use Rattle.board.specs.Good.{next_above, rising, part_fits}
use Rattle.board.specs.Permitted.{below}
use Rattle.board.proofs.RolesIn.{mem_below}
use Rattle.file.specs.Reads.{filled}
use Rattle.file.specs.Records.{is_above}

length_below : (n : ℕ) → length (below n) ≡ n
length_below zero = refl
length_below (suc n) = rw (length-append, length_below n) (add-one n)

module _ {A : Type 0} (lower : A → A → Bool) where
  next_same :
      (w : A) (l : List A) (x : A) (k : List A)
      → next_above lower w ((l ++ (x ∷ [])) ++ k) ≡ next_above lower w (l ++ (x ∷ []))
  next_same w [] x k = refl
  next_same w (y ∷ l) x k = refl

  -- one more record, above the last
  rising_more :
      (l : List A) (x y : A) → rising lower (l ++ (x ∷ [])) ≡ true → lower x y ≡ true
      → rising lower ((l ++ (x ∷ [])) ++ (y ∷ [])) ≡ true
  rising_more [] x y e f = rw f
  rising_more (w ∷ l) x y e f =
      let r = and_true (next_above lower w (l ++ (x ∷ []))) (rising lower (l ++ (x ∷ []))) e in
      rw (next_same w l x (y ∷ []), r.0, rising_more l x y r.1 f)

module _ {A : Type 0} (at : ℕ → A) where
  -- ---- the records of a part

  pub records_length : (n : ℕ) → length (map at (below n)) ≡ n
  records_length n = length-map (below n) at ∙ length_below n

  pub all_fit :
      (fits : A → Bool) (n : ℕ) → ((i : ℕ) → i < n → fits (at i) ≡ true) → all fits (map at (below n)) ≡ true
  all_fit fits n f = all_in fits (map at (below n)) (λ x m. one x (Memᴰ.of_map at (below n) m))
    where
      one : (x : A) → (i : ℕ) × Mem i (below n) × (at i ≡ x) → fits x ≡ true
      one x r = sym (ap fits r.2) ∙ f r.0 (mem_below n r.0 r.1)

  module _ (lower : A → A → Bool) where
    above_last : (i : ℕ) → is_above lower at (suc i) ≡ true → lower (at i) (at (suc i)) ≡ true
    above_last i e =
        let later : eqb (suc i) 0 ≡ false = ne_eqb (suc i) 0 (λ q. omega arith) in
        let last : suc i - 1 ≡ i = omega arith in
        rw (later, last) at e

    all_rise :
        (n : ℕ) → ((i : ℕ) → i < n → is_above lower at i ≡ true) → rising lower (map at (below n)) ≡ true
    all_rise zero f = refl
    all_rise (suc zero) f = refl
    all_rise (suc (suc n)) f =
        rw (map-append at (below n ++ (n ∷ [])), map-append at (below n))
        (rising_more lower (map at (below n)) (at n) (at (suc n))
        (rw (map-append at (below n)) at (all_rise (suc n) (λ i h. f i (omega arith))))
        (above_last n (f (suc n) (omega arith))))

    -- each fits, and is above the one before it
    pub part_fits_lem :
        (fits : A → Bool) (n : ℕ)
        → ((i : ℕ) → i < n → (fits (at i) ≡ true) × (is_above lower at i ≡ true))
        → part_fits fits lower (map at (below n)) ≡ true
    part_fits_lem fits n f =
        and_both (all fits (map at (below n))) (rising lower (map at (below n)))
        (all_fit fits n (λ i h. (f i h).0))
        (all_rise n (λ i h. (f i h).1))

  -- ---- with filler in the rest of the room

  module _ (filler : A) (room n : ℕ) where
    pub filled_length : n ≤ room → length (filled at filler room n) ≡ room
    filled_length h = rw (length-append, records_length n, length-replicate) (omega arith)

    pub filled_take : take n (filled at filler room n) ≡ map at (below n)
    filled_take = take_at (map at (below n)) (replicate (room - n) filler) n (records_length n)

    pub filled_drop : drop n (filled at filler room n) ≡ replicate (room - n) filler
    filled_drop = drop_at (map at (below n)) (replicate (room - n) filler) n (records_length n)

-- ---- a loop that fills

module _ {A : Type 0} (at : ℕ → A) (filler : A) (room : ℕ) where
  filled_next : (i : ℕ) → i < room → set (filled at filler room i) i (at i) ≡ filled at filler room (i + 1)
  filled_next i h =
      let more : room - i ≡ suc (room - suc i) = omega arith in
      rw (more, add-one, map-append at (below i), append_assoc)
      (set_at (map at (below i)) filler (replicate (room - suc i) filler) (at i) i (records_length at i))

  -- no record yet
  pub filling_starts : (out : List A) → out ≡ replicate room filler → out ≡ filled at filler room 0
  filling_starts out e = rw (sub-zero room) e

  -- one more record, written in its place
  pub filling_next :
      (i : ℕ) (out : List A) (x : A) → out ≡ filled at filler room i → x ≡ at i → i < room
      → set out i x ≡ filled at filler room (i + 1)
  filling_next i out x e f h = rw (e, f) (filled_next i h)
