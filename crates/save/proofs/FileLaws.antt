-- Laws of a board as a file: how long it is, and that header and parts put one after the other are the file.
use mathlib.Core.Path.{◌≡◌, refl, sym, ap, subst, ◌∙◌}
use mathlib.Core.Bool.{true}
use mathlib.Core.List.{List, [], ◌++◌}
use Prim.Native.Nat.{ℕ, ◌+◌, ◌≤◌}
use native.Mathlib.Omega.{arith}
use lib.ListN.{length, take, length-append}
use lib.Seq.{length-take-le}
use Rattle.board.specs.declared.Board.{Board}
use Rattle.board.specs.declared.Counts.{Counts}
use Rattle.board.specs.declared.Duty.{Duty}
use Rattle.board.specs.declared.Permission.{Permission}
use Rattle.board.specs.declared.Rule.{Rule}
use Rattle.board.specs.Filler.{Sized}
use Rattle.board.specs.Good.{good}
use Rattle.board.specs.View.{View, view}
use Rattle.board.proofs.GoodLaws.{good→counts}
use Rattle.layout.specs.Bytes.{four_bytes}
use Rattle.layout.specs.Layout.{header_size, holding_size}
use Rattle.layout.specs.Layout.{permission_size, rule_size, duty_size, total_of, longest}
use Rattle.put.specs.declared.Writer.{Writer}
use Rattle.put.specs.Writes.{Writes}
use Rattle.put.proofs.WriteLaws.{writes_last, writes_then}
use Rattle.save.specs.FileOf.{
  counts_said,
  header_bytes,
  permission_bytes,
  rule_bytes,
  duty_bytes,
  part,
  file_of,
}
use Rattle.save.specs.Saves.{saved}
use Rattle.save.proofs.PartLaws.{part_length}

-- ---- how long it is

five_long :
    (a b c d e : List ℕ)
    → length (a ++ (b ++ (c ++ (d ++ (e ++ [])))))
    ≡ length a + length b + length c + length d + length e
five_long a b c d e =
    omega (
      arith,
      length-append a (b ++ (c ++ (d ++ (e ++ [])))),
      length-append b (c ++ (d ++ (e ++ []))),
      length-append c (d ++ (e ++ [])),
      length-append d (e ++ []),
      length-append e [],
    )

pub file_length : (v : View) → length v.holdings ≡ v.users → length (file_of v) ≡ total_of (counts_said v)
unfolding file_of
file_length v held =
    five_long (header_bytes (counts_said v) v.clock v.next) (part four_bytes v.holdings)
    (part permission_bytes v.permissions)
    (part rule_bytes v.rules)
    (part duty_bytes v.duties)
    ∙ omega (
      arith,
      held,
      part_length four_bytes holding_size (λ x. refl) v.holdings,
      part_length permission_bytes permission_size (λ x. refl) v.permissions,
      part_length rule_bytes rule_size (λ x. refl) v.rules,
      part_length duty_bytes duty_size (λ x. refl) v.duties,
    )

-- as long as the header and its parts, by whatever lists the parts are put
pub saved_parts :
    (b : Board) {u : List ℕ} {p : List Permission} {r : List Rule} {d : List Duty} → u ≡ (view b).holdings
    → p ≡ (view b).permissions → r ≡ (view b).rules → d ≡ (view b).duties
    → length (saved b)
    ≡ header_size
    + length (part four_bytes u)
    + length (part permission_bytes p)
    + length (part rule_bytes r)
    + length (part duty_bytes d)
unfolding file_of
saved_parts b {u} {p} {r} {d} users permissions rules duties =
    rw (users, permissions, rules, duties)
    (five_long (header_bytes (counts_said (view b)) b.clock b.next.0) (part four_bytes (view b).holdings)
    (part permission_bytes (view b).permissions)
    (part rule_bytes (view b).rules)
    (part duty_bytes (view b).duties))

-- header and parts put one after the other
pub file_put :
    (b : Board) {p q r s t u : Writer} → counts_said (view b) ≡ b.counts
    → Writes (header_bytes b.counts b.clock b.next.0) p q
    → Writes (part four_bytes (view b).holdings) q r
    → Writes (part permission_bytes (view b).permissions) r s
    → Writes (part rule_bytes (view b).rules) s t
    → Writes (part duty_bytes (view b).duties) t u → Writes (saved b) p u
unfolding file_of
file_put b {p} {q} said header first second third last =
    let start = subst (λ (n : Counts). Writes (header_bytes n b.clock b.next.0) p q) (sym said) header in
    writes_then start
    (writes_then first (writes_then second (writes_then third (writes_last last))))

-- ---- of a good board value

module _ (b : Board) (s : Sized b) (g : good b ≡ true) where
  users : length (take b.counts.users b.holdings) ≡ b.counts.users
  users = length-take-le b.counts.users b.holdings (rw s.holdings (good→counts b g).users)

  permissions : length (take b.counts.permissions b.permissions) ≡ b.counts.permissions
  permissions =
      length-take-le b.counts.permissions b.permissions
      (rw s.permissions (good→counts b g).permissions)

  rules : length (take b.counts.rules b.rules) ≡ b.counts.rules
  rules = length-take-le b.counts.rules b.rules (rw s.rules (good→counts b g).rules)

  duties : length (take b.counts.duties b.duties) ≡ b.counts.duties
  duties = length-take-le b.counts.duties b.duties (rw s.duties (good→counts b g).duties)

  -- the counts that its file has are its own
  pub counts_said_lem : counts_said (view b) ≡ b.counts
  counts_said_lem =
      λ i.
      record {
        users = b.counts.users;
        roles = b.counts.roles;
        permissions = permissions i;
        rules = rules i;
        duties = duties i;
      }

  pub saved_length : length (saved b) ≡ total_of b.counts
  saved_length = file_length (view b) users ∙ ap total_of counts_said_lem

  -- and never longer than the longest file
  pub saved_fits : length (saved b) ≤ longest
  saved_fits = let n = good→counts b g in omega (arith, saved_length, n)
