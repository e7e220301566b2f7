-- What a board says after an accepted call keeps the rules and has room, if it did before: so the board
-- value that says it is good. Only clock, next serial, holdings and duties change, and each of these stays
-- in range.
use mathlib.Core.Path.{◌≡◌, refl, ap, ◌∙◌}
use mathlib.Core.Logic.{⊎_elim}
use mathlib.Core.Bool.{Bool, true, false, cond}
use mathlib.Core.List.Memᴰ
use mathlib.Core.List.{List, [], ◌∷◌, ◌++◌}
use Prim.Native.Nat.{ℕ, suc, ◌+◌, ◌≤◌, ◌<◌, ◌^◌}
use native.Mathlib.Omega.{arith}
use lib.ListN.{length, length-append}
use borrow.Author.Tests.{ltb-true, lt-ltb}
use Rattle.orders.specs.Lists.{Mem, here, there, all, keep, Pairwise}
use Rattle.orders.proofs.Lists.{all_in, all_mem, keep_mem, mid, find_case, pairwise_keep, pairwise_append}
use Rattle.board.specs.declared.Duty.{Duty}
use Rattle.board.specs.declared.What.{What}
use Rattle.board.specs.After.{NewDuty, with_serial, numbered, admitted, acted}
use Rattle.board.specs.After.{named, without_serial, withdrawn, did}
use Rattle.board.specs.Good.{set_fits, what_fits}
use Rattle.board.specs.Limits.{max_duties, max_next}
use Rattle.board.specs.Permitted.{changed}
use Rattle.board.specs.View.{View}
use Rattle.board.proofs.GoodLaws.{RecordsInRange, records→range, range→records}
use Rattle.board.proofs.InRange.{DutyInRange}
use Rattle.board.proofs.Rising.{Part}
use Rattle.board.proofs.SayingLaws.{ViewFits}
use Rattle.permitted.proofs.Laws.{changed_length, changed_fits}

-- ---- lists of duties

keep_length : {A : Type 0} (p : A → Bool) (l : List A) → length (keep p l) ≤ length l
keep_length p [] = omega arith
keep_length p (x ∷ l) = go (p x) (keep_length p l)
  where
    go :
        (b : Bool) → length (keep p l) ≤ length l
        → length (cond b (x ∷ keep p l) (keep p l)) ≤ suc (length l)
    go true h = omega arith
    go false h = omega arith

-- a duty asked for that this board may admit
pub record NewFits (v : View) (d : NewDuty) : Type 0 where
  pub doer : d.doer < v.users
  pub what : what_fits v.users v.roles d.what ≡ true
  pub window : d.start ≤ d.end

numbered_length : (serial : ℕ) (new : List NewDuty) → length (numbered serial new) ≡ length new
numbered_length serial [] = refl
numbered_length serial (d ∷ new) = ap suc (numbered_length (serial + 1) new)

-- a duty that was given its serial: which, and from what
pub record Numbered (serial : ℕ) (new : List NewDuty) (d : Duty) : Type 0 where
  pub asked : NewDuty
  pub from : Mem asked new
  pub is : d ≡ with_serial d.serial.0 asked
  pub low : serial ≤ d.serial.0
  pub high : d.serial.0 < serial + length new

pub numbered_mem :
    (serial : ℕ) (new : List NewDuty) (d : Duty) → Mem d (numbered serial new) → Numbered serial new d
numbered_mem serial [] d x' = elim x' [ ]
numbered_mem serial (n ∷ new) d (here e) =
    record {
      asked = n;
      from = here refl;
      is = rw e;
      low = let s = ap (λ (d : Duty). d.serial.0) e in omega arith;
      high = let s = ap (λ (d : Duty). d.serial.0) e in omega arith;
    }
numbered_mem serial (n ∷ new) d (there m) =
    let r = numbered_mem (serial + 1) new d m in
    record {
      asked = r.asked;
      from = there r.from;
      is = r.is;
      low = omega (arith, r.low);
      high = omega (arith, r.high);
    }

numbered_rise :
    (serial : ℕ) (new : List NewDuty)
    → Pairwise (λ (d e : Duty). d.serial.0 < e.serial.0) (numbered serial new)
numbered_rise serial [] = tt
numbered_rise serial (n ∷ new) = (
  λ e m. omega (arith, (numbered_mem (serial + 1) new e m).low),
  numbered_rise (serial + 1) new,
)

-- ---- what changes

-- the duties that a board with this next serial may have
abbrev DutiesRight : View → ℕ → List Duty → Type 0
DutiesRight v next duties =
    Part (DutyInRange v.users v.roles next) (λ d e. d.serial.0 < e.serial.0) duties

abbrev with : View → ℕ → ℕ → List ℕ → List Duty → View
with v clock next holdings duties =
    record {
      users = v.users;
      roles = v.roles;
      clock = clock;
      next = next;
      holdings = holdings;
      permissions = v.permissions;
      rules = v.rules;
      duties = duties;
    }

module _ (v : View) (fits : ViewFits v) (clock : ℕ) where
  in_range : RecordsInRange v
  in_range = records→range v fits.records

  -- every set of roles is in range
  sets : all (set_fits v.roles) v.holdings ≡ true
  sets =
      all_in (set_fits v.roles) v.holdings
      (λ set m. lt-ltb set (2 ^ v.roles) (in_range.holdings set m))

  still_fits :
      (next : ℕ) (holdings : List ℕ) (duties : List Duty) → 1 ≤ next → next ≤ max_next
      → length holdings ≡ v.users → all (set_fits v.roles) holdings ≡ true → length duties ≤ max_duties
      → DutiesRight v next duties → ViewFits (with v clock next holdings duties)
  still_fits next holdings duties one most held fit few right =
      record {
        one_user = fits.one_user;
        users = fits.users;
        one_role = fits.one_role;
        roles = fits.roles;
        permissions = fits.permissions;
        rules = fits.rules;
        duties = few;
        serial = one;
        most = most;
        held = held;
        records =
            range→records (with v clock next holdings duties)
            (record {
              holdings = λ set m. ltb-true set (2 ^ v.roles) (all_mem (set_fits v.roles) fit m);
              permissions = in_range.permissions;
              rules = in_range.rules;
              duties = right;
            });
      }

  -- ---- withdraw

  kept_right : (p : Duty → Bool) → DutiesRight v v.next (keep p v.duties)
  kept_right p =
      record {
        each = λ d m. in_range.duties.each d (keep_mem p v.duties m).0;
        rise = pairwise_keep _ p v.duties in_range.duties.rise;
      }

  kept_few : (p : Duty → Bool) → length (keep p v.duties) ≤ max_duties
  kept_few p = omega (arith, keep_length p v.duties, fits.duties)

  pub withdrawn_fits : (serial : ℕ) → ViewFits (withdrawn v clock serial)
  withdrawn_fits serial =
      still_fits v.next v.holdings (without_serial serial v.duties) fits.serial fits.most
      fits.held sets (kept_few _) (kept_right _)

  -- ---- act

  pub acted_fits : (what : What) → what_fits v.users v.roles what ≡ true → ViewFits (acted v clock what)
  acted_fits what e =
      still_fits v.next (changed v.holdings what) v.duties fits.serial fits.most
      (changed_length v.holdings what ∙ fits.held)
      (changed_fits v.holdings v.users v.roles sets what e) fits.duties in_range.duties

  -- ---- do

  pub did_fits : (serial : ℕ) → ViewFits (did v clock serial)
  did_fits serial =
      ⊎_elim
      (λ n. rw n.finds (withdrawn_fits serial))
      (λ f.
      let d = f.x in
      let what_fits_lem = (in_range.duties.each d (rw f.is (mid f.earlier f.later))).what in
      rw f.finds (changes d.what what_fits_lem))
      (find_case (named serial) v.duties)
    where
      changes :
          (what : What) → what_fits v.users v.roles what ≡ true
          → ViewFits (with v clock v.next (changed v.holdings what) (without_serial serial v.duties))
      changes what e =
          still_fits v.next (changed v.holdings what) (without_serial serial v.duties) fits.serial
          fits.most (changed_length v.holdings what ∙ fits.held)
          (changed_fits v.holdings v.users v.roles sets what e) (kept_few _) (kept_right _)

  -- ---- admit

  pub admitted_fits :
      (new : List NewDuty) → ((d : NewDuty) → Mem d new → NewFits v d)
      → length v.duties + length new ≤ max_duties → v.next + length new ≤ max_next
      → ViewFits (admitted v clock new)
  admitted_fits new right few most =
      still_fits (v.next + length new) v.holdings (v.duties ++ numbered v.next new)
      (omega (arith, fits.serial))
      most fits.held sets (rw (length-append, numbered_length v.next new) few)
      (record { each = each; rise = rise })
    where
      each :
          (d : Duty) → Mem d (v.duties ++ numbered v.next new)
          → DutyInRange v.users v.roles (v.next + length new) d
      each d m =
          ⊎_elim
          (λ k.
          let r = in_range.duties.each d k in
          record {
            serial = r.serial;
            given = omega (arith, r.given);
            doer = r.doer;
            what = r.what;
            window = r.window;
          })
          (λ k.
          let n = numbered_mem v.next new d k in
          record {
            serial = omega (arith, n.low, fits.serial);
            given = n.high;
            doer = rw n.is (right n.asked n.from).doer;
            what = rw n.is (right n.asked n.from).what;
            window = rw n.is (right n.asked n.from).window;
          })
          (Memᴰ.append_cases v.duties m)

      rise : Pairwise (λ (d e : Duty). d.serial.0 < e.serial.0) (v.duties ++ numbered v.next new)
      rise =
          pairwise_append _ v.duties (numbered v.next new) in_range.duties.rise
          (numbered_rise v.next new)
          (λ d e m n. omega (arith, (in_range.duties.each d m).given, (numbered_mem v.next new e n).low))
