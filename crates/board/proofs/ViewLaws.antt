-- A good board value is settled by what it says: two of one view are equal, since each list is the view's and
-- then filler up to its size. And the smallest board is good.
use mathlib.Core.Path.{◌≡◌, refl, sym, ◌∙◌, ap}
use mathlib.Core.Bool.{true}
use mathlib.Core.List.{List}
use Prim.Native.Nat.{ℕ, ◌≤◌}
use lib.ListN.{length, take, take-append-drop}
use lib.Seq.{length-take-le}
use Rattle.board.specs.declared.Board.{Board}
use Rattle.board.specs.Filler.{no_permission, no_rule, no_duty, smallest_board, Sized}
use Rattle.board.specs.Limits.{max_users, max_permissions, max_rules, max_duties}
use Rattle.board.specs.View.{View, view}
use Rattle.board.specs.Good.{good}
use Rattle.board.proofs.InRange.{CountsInRange}
use Rattle.board.proofs.FillerLaws.{Beyond, FillerBeyond, filler→beyond}
use Rattle.board.proofs.GoodLaws.{good→counts, good→filler}

-- two lists of one size that begin alike, with filler beyond, have one count and are equal
same_part :
    {A : Type 0} (filler : A) (size : ℕ) {m n : ℕ} {l k : List A} → length l ≡ size → length k ≡ size
    → m ≤ size → n ≤ size → Beyond m size filler l → Beyond n size filler k → take m l ≡ take n k
    → (m ≡ n) × (l ≡ k)
same_part {A} filler size {m} {n} {l} {k} p q h i f g e = (
  count,
  sym (take-append-drop m l) ∙ rw (e, f, count, ← g) (take-append-drop n k),
)
  where
    count : m ≡ n
    count = sym (length-take-le m l (rw p h)) ∙ ap length e ∙ length-take-le n k (rw q i)

pub same_view :
    (a b : Board) → Sized a → Sized b → good a ≡ true → good b ≡ true → view a ≡ view b → a ≡ b
same_view a b s t g h e =
    λ i.
    record {
      counts =
          record {
            users = hs.0 i;
            roles = ap (λ (v : View). v.roles) e i;
            permissions = ps.0 i;
            rules = rs.0 i;
            duties = ds.0 i;
          };
      clock = ap (λ (v : View). v.clock) e i;
      next = record { 0 = ap (λ (v : View). v.next) e i };
      holdings = hs.1 i;
      permissions = ps.1 i;
      rules = rs.1 i;
      duties = ds.1 i;
    }
  where
    m : CountsInRange a.counts a.next.0
    m = good→counts a g

    n : CountsInRange b.counts b.next.0
    n = good→counts b h

    f : FillerBeyond a
    f = filler→beyond a s (good→filler a g)

    k : FillerBeyond b
    k = filler→beyond b t (good→filler b h)

    hs : (a.counts.users ≡ b.counts.users) × (a.holdings ≡ b.holdings)
    hs =
        same_part 0 max_users s.holdings t.holdings m.users n.users
        f.holdings k.holdings (ap (λ (v : View). v.holdings) e)

    ps : (a.counts.permissions ≡ b.counts.permissions) × (a.permissions ≡ b.permissions)
    ps =
        same_part no_permission max_permissions s.permissions t.permissions
        m.permissions n.permissions f.permissions k.permissions
        (ap (λ (v : View). v.permissions) e)

    rs : (a.counts.rules ≡ b.counts.rules) × (a.rules ≡ b.rules)
    rs =
        same_part no_rule max_rules s.rules t.rules m.rules n.rules
        f.rules k.rules (ap (λ (v : View). v.rules) e)

    ds : (a.counts.duties ≡ b.counts.duties) × (a.duties ≡ b.duties)
    ds =
        same_part no_duty max_duties s.duties t.duties m.duties n.duties
        f.duties k.duties (ap (λ (v : View). v.duties) e)

pub smallest_good : good smallest_board ≡ true
unfolding good
smallest_good = refl
