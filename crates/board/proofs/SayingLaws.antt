-- A board value and what it says. Where what is to be said keeps the rules and has room, the board value
-- that says it is good, and says it; and a good board value is the one that says what it says.
use mathlib.Core.Path.{◌≡◌, refl, ap, ◌∙◌}
use mathlib.Core.Bool.{true}
use mathlib.Core.List.{List, [], ◌∷◌, ◌++◌}
use Prim.Native.Nat.{ℕ, suc, ◌-◌, ◌≤◌, ◌<◌}
use native.Mathlib.Omega.{arith}
use lib.ListN.{length, take, set, replicate, length-append, length-replicate}
use lib.Seq.{length-take-le, take_at, drop_at}
use Rattle.board.specs.declared.Board.{Board}
use Rattle.board.specs.Filler.{no_permission, no_rule, no_duty, Sized}
use Rattle.board.specs.Good.{good, records_fit}
use Rattle.board.specs.Limits.{max_users, max_roles, max_permissions, max_rules, max_duties, max_next}
use Rattle.board.specs.Saying.{padded, board_saying}
use Rattle.board.specs.View.{View, view}
use Rattle.board.proofs.FillerLaws.{FillerBeyond, Beyond}
use Rattle.board.proofs.InRange.{CountsInRange}
use Rattle.board.proofs.FillerLaws.{beyond→filler}
use Rattle.board.proofs.GoodLaws.{good→counts, good→records, parts→good}
use Rattle.board.proofs.ViewLaws.{same_view}

-- what a good board value says: in range, with room, by the rules of the file's records
pub record ViewFits (v : View) : Type 0 where
  pub one_user : 1 ≤ v.users
  pub users : v.users ≤ max_users
  pub one_role : 1 ≤ v.roles
  pub roles : v.roles ≤ max_roles
  pub permissions : length v.permissions ≤ max_permissions
  pub rules : length v.rules ≤ max_rules
  pub duties : length v.duties ≤ max_duties
  pub serial : 1 ≤ v.next
  pub most : v.next ≤ max_next
  pub held : length v.holdings ≡ v.users
  pub records : records_fit v ≡ true

pub view_fits : (b : Board) → Sized b → good b ≡ true → ViewFits (view b)
view_fits b s g =
    let n = good→counts b g in
    let ps =
    length-take-le b.counts.permissions b.permissions (rw s.permissions n.permissions) in
    let rs = length-take-le b.counts.rules b.rules (rw s.rules n.rules) in
    let ds = length-take-le b.counts.duties b.duties (rw s.duties n.duties) in
    record {
      one_user = n.one_user;
      users = n.users;
      one_role = n.one_role;
      roles = n.roles;
      permissions = rw ps n.permissions;
      rules = rw rs n.rules;
      duties = rw ds n.duties;
      serial = n.serial;
      most = n.most;
      held = length-take-le b.counts.users b.holdings (rw s.holdings n.users);
      records = good→records b g;
    }

-- ---- one list, padded

module _ {A : Type 0} (filler : A) (room : ℕ) (l : List A) where
  padded_length : length l ≤ room → length (padded filler room l) ≡ room
  padded_length h = rw (length-append, length-replicate) (omega arith)

  padded_take : (n : ℕ) → length l ≡ n → take n (padded filler room l) ≡ l
  padded_take n e = take_at l (replicate (room - length l) filler) n e

  padded_beyond : (n : ℕ) → length l ≡ n → Beyond n room filler (padded filler room l)
  padded_beyond n e = drop_at l (replicate (room - length l) filler) n e ∙ rw e

module _ {A : Type 0} (filler x : A) where
  next_in :
      (n : ℕ) (l : List A)
      → set (l ++ replicate (suc n) filler) (length l) x ≡ (l ++ (x ∷ [])) ++ replicate n filler
  next_in n [] = refl
  next_in n (y ∷ l) = ap (λ (k : List A). y ∷ k) (next_in n l)

  -- one record more, in the first place of the room that is left
  pub padded_next :
      (room : ℕ) (l : List A) → length l < room
      → set (padded filler room l) (length l) x ≡ padded filler room (l ++ (x ∷ []))
  padded_next room l h =
      let longer = length-append l (x ∷ []) in
      let left : room - length l ≡ suc (room - length (l ++ (x ∷ []))) = omega (arith, longer) in
      rw left (next_in (room - length (l ++ (x ∷ []))) l)

-- ---- the board value that says this

module _ (v : View) (fits : ViewFits v) where
  pub saying_sized : Sized (board_saying v)
  unfolding board_saying
  saying_sized =
      let users : length v.holdings ≤ max_users = rw fits.held fits.users in
      record {
        holdings = padded_length 0 max_users v.holdings users;
        permissions = padded_length no_permission max_permissions v.permissions fits.permissions;
        rules = padded_length no_rule max_rules v.rules fits.rules;
        duties = padded_length no_duty max_duties v.duties fits.duties;
      }

  pub view_saying : view (board_saying v) ≡ v
  unfolding board_saying
  view_saying =
      λ i.
      record {
        users = v.users;
        roles = v.roles;
        clock = v.clock;
        next = v.next;
        holdings = padded_take 0 max_users v.holdings v.users fits.held i;
        permissions =
            padded_take no_permission max_permissions v.permissions (length v.permissions) refl i;
        rules = padded_take no_rule max_rules v.rules (length v.rules) refl i;
        duties = padded_take no_duty max_duties v.duties (length v.duties) refl i;
      }

  counts : CountsInRange (board_saying v).counts (board_saying v).next.0
  unfolding board_saying
  counts =
      record {
        one_user = fits.one_user;
        users = fits.users;
        one_role = fits.one_role;
        roles = fits.roles;
        permissions = fits.permissions;
        rules = fits.rules;
        duties = fits.duties;
        serial = fits.serial;
        most = fits.most;
      }

  filler : FillerBeyond (board_saying v)
  unfolding board_saying
  filler =
      record {
        holdings = padded_beyond 0 max_users v.holdings v.users fits.held;
        permissions =
            padded_beyond no_permission max_permissions v.permissions (length v.permissions) refl;
        rules = padded_beyond no_rule max_rules v.rules (length v.rules) refl;
        duties = padded_beyond no_duty max_duties v.duties (length v.duties) refl;
      }

  pub saying_good : good (board_saying v) ≡ true
  saying_good =
      parts→good (board_saying v) counts (ap records_fit view_saying ∙ fits.records)
      (beyond→filler (board_saying v) filler)

-- a good board value is the one that says what it says
pub saying_view : (b : Board) → Sized b → good b ≡ true → board_saying (view b) ≡ b
saying_view b s g =
    let fits = view_fits b s g in
    same_view (board_saying (view b)) b (saying_sized (view b) fits) s (saying_good (view b) fits) g
    (view_saying (view b) fits)
