-- Laws of putting bytes at a place: nothing put, one byte put, and bytes put after bytes, of which every line
-- is made. Putting keeps the room's length, so what is put next stands where the first ended.
use mathlib.Core.Path.{◌≡◌, refl, sym, ◌∙◌}
use mathlib.Core.List.{List, [], ◌∷◌, ◌++◌, append_assoc}
use Prim.Native.Nat.{ℕ, ◌+◌, ◌≤◌, ◌<◌}
use native.Mathlib.Nat.{add-zero}
use native.Mathlib.Numerals.{add-one}
use native.Mathlib.Omega.{arith}
use lib.ListN.{length, take, drop, set, length-append, length-take, length-set, take-append-drop}
use lib.Seq.{set_split, take_at, drop_at, drop-drop}
use Rattle.put.specs.Put.{Put}

-- two outcomes of one put are equal
pub put_once : {bytes x y z : List ℕ} {at m n : ℕ} → Put bytes x at y m → Put bytes x at z n
    → (y ≡ z) × (m ≡ n)
put_once p q = (p.list ∙ sym q.list, p.place ∙ sym q.place)

pub put_nothing : (l : List ℕ) (at : ℕ) → at ≤ length l → Put [] l at l at
put_nothing l at h =
    record { list = rw (add-zero, take-append-drop); place = omega arith; fits = h; kept = refl }

pub put_one : (l : List ℕ) (at b : ℕ) → at < length l → Put (b ∷ []) l at (set l at b) (at + 1)
put_one l at b h =
    record {
      list = rw add-one (set_split l at b h);
      place = refl;
      fits = omega arith;
      kept = length-set l at b;
    }

pub put_then : {a b x y z : List ℕ} {at m n : ℕ} → Put a x at y m → Put b y m z n → Put (a ++ b) x at z n
put_then {a} {b} {x} {y} {z} {at} {m} {n} p q =
    let head : length (take at x ++ a) ≡ m = simp (length-append, length-take) (omega arith) in
    let split : y ≡ (take at x ++ a) ++ drop m x = rw (append_assoc, p.place) p.list in
    let end : at + length (a ++ b) ≡ m + length b = rw length-append (omega arith) in
    let front : take m y ≡ take at x ++ a = rw (split, take_at) in
    let back : drop m y ≡ drop m x = rw (split, drop_at) in
    record {
      list = rw (q.list, front, end, ← drop-drop (length b) m y, back, drop-drop) (simp append_assoc);
      place = omega (arith, end);
      fits = omega arith;
      kept = omega arith;
    }

-- the last bytes of a list of bytes put together
pub put_last : {a x y : List ℕ} {at n : ℕ} → Put a x at y n → Put (a ++ []) x at y n
put_last {y = y} {n = n} p = put_then p (put_nothing y n (omega arith))
