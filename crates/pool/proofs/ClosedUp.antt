-- The loop of `without_serial`: those of the first i members that pass a test stand at the start of the room,
-- closed up, and filler stands behind them. A turn writes the next in the place of the first filler, or
-- nothing.
use mathlib.Core.Path.{◌≡◌, refl, sym, ◌∙◌}
use mathlib.Core.Bool.{Bool, true, false}
use mathlib.Core.List.{List, [], ◌∷◌, ◌++◌, append-nil, append_assoc}
use Prim.Native.Nat.{ℕ, suc, ◌+◌, ◌-◌, ◌≤◌, ◌<◌}
use native.Mathlib.Numerals.{add-one}
use native.Mathlib.Omega.{arith}
use Rattle.std.proofs.Math.Seq.{set-append_seam}
use lib.ListN.{length, take, get_or, set, replicate, length-append}
use lib.Seq.{take-suc}
use Rattle.orders.specs.Lists.{keep}
use Rattle.orders.proofs.Tests.{by_test}
use Rattle.board.specs.Saying.{padded}

-- ---- one member more

module _ {A : Type 0} (p : A → Bool) where
  keep_append : (l k : List A) → keep p (l ++ k) ≡ keep p l ++ keep p k
  keep_append [] k = refl
  keep_append (x ∷ l) k = by_test (p x) (λ t. rw (t, keep_append l k)) (λ f. rw (f, keep_append l k))

  module _ (l : List A) (i : ℕ) (d : A) (h : i < length l) where
    keep_more : keep p (take (i + 1) l) ≡ keep p (take i l) ++ keep p (get_or l i d ∷ [])
    keep_more = rw (add-one i, take-suc l i d h) (keep_append (take i l) (get_or l i d ∷ []))

    pub keep_one : p (get_or l i d) ≡ true → keep p (take (i + 1) l) ≡ keep p (take i l) ++ (get_or l i d ∷ [])
    keep_one t = rw t at keep_more

    pub keep_none : p (get_or l i d) ≡ false → keep p (take (i + 1) l) ≡ keep p (take i l)
    keep_none f = (rw f at keep_more) ∙ append-nil (keep p (take i l))

-- ---- the room

-- the members kept, of the first i, stand at the start of the room, with filler behind them; they are `count`
pub record ClosedUp {A : Type 0} (filler : A) (room i : ℕ) (kept out : List A) (count : ℕ) : Type 0 where
  pub few : count ≤ i
  pub is : out ≡ padded filler room kept
  pub counted : count ≡ length kept

module _ {A : Type 0} {filler : A} {room i count : ℕ} {kept out : List A}
    (known : ClosedUp filler room i kept out count) {next : List A} where
  pub written :
      (d : A) → count < room → next ≡ kept ++ (d ∷ [])
      → ClosedUp filler room (i + 1) next (set out count d) (count + 1)
  written d h e =
      record {
        few = omega (arith, known.few);
        is =
            rw (known.is, known.counted, e, more)
            (set-append_seam kept filler behind d ∙ sym (append_assoc kept (d ∷ []) behind));
        counted = rw (e, known.counted) (sym (length-append kept (d ∷ [])));
      }
    where
      behind : List A
      behind = replicate (room - length (kept ++ (d ∷ []))) filler

      more : replicate (room - length kept) filler ≡ filler ∷ behind
      more =
          let one : room - length kept ≡ suc (room - length (kept ++ (d ∷ []))) =
          rw length-append (omega (arith, known.counted)) in
          rw one refl

  pub passed_over : next ≡ kept → ClosedUp filler room (i + 1) next out count
  passed_over e = record { few = omega (arith, known.few); is = rw e known.is; counted = rw e known.counted }
