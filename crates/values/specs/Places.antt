-- The test of a board value part by part, as the code makes it. (What a good board value is stands in the
-- crate board, specs/Good.antt; that both are the same is proved in proofs/Whole.antt.)
use Rattle.std.specs.Prelude.{◌≡◌, Bool, true, ◌&&◌, List, [], ◌∷◌, ℕ, eqb, ltb, take, drop}
use Rattle.std.specs.Fn.{Shared}
use denote.Ref.{Bor}
use Rattle.orders.specs.Lists.{all}
use Rattle.board.specs.declared.Counts.{Counts}
use Rattle.board.specs.declared.Duty.{Duty}
use Rattle.board.specs.declared.Permission.{Permission}
use Rattle.board.specs.declared.Rule.{Rule}
use Rattle.board.specs.Good as g
use Rattle.board.specs.Limits.{objects}
use Rattle.board.specs.Windows.{window_fits}
use Rattle.records.specs.Pairs.{join}

-- what is asked of a part: a record fits; it is above the one before it; this is filler
pub record Tests (A : Type 0) : Type 0 where
  pub fits : A → Bool
  pub below : A → A → Bool
  pub filler : A → Bool

-- the records up to the count are right, and beyond it stands the filler
unfoldable pub part_good : {A : Type 0} → Tests A → ℕ → List A → Bool
part_good t count l = g.part_fits t.fits t.below (take count l) && all t.filler (drop count l)

-- ---- the tests of records by keys that rise

-- each record passes the test by the key before it, and the last key is below the bound
abbrev pub climbs : {A : Type 0} → (ℕ → A → Bool) → (A → ℕ) → ℕ → ℕ → List A → Bool
climbs test key above_all before [] = ltb before above_all
climbs test key above_all before (x ∷ l) = test before x && climbs test key above_all (key x) l

-- action and object of a permission, as one number
abbrev pub permission_key : Permission → ℕ
permission_key p = join p.action p.object

-- the role and the object of a permission are in range
abbrev pub beside_action : ℕ → Permission → Bool
beside_action roles p = ltb p.role roles && ltb p.object objects

-- and its action and object are above those before
abbrev pub permission_climbs : ℕ → ℕ → Permission → Bool
permission_climbs roles before p = beside_action roles p && ltb before (permission_key p)

-- the fields of a duty but its serial are in range, and its window fits
abbrev pub beside_serial : ℕ → ℕ → Duty → Bool
beside_serial users roles d = ltb d.doer users && (g.what_fits users roles d.what && window_fits d)

-- and its serial is above the one before
abbrev pub duty_climbs : ℕ → ℕ → ℕ → Duty → Bool
duty_climbs users roles before d = beside_serial users roles d && ltb before d.serial.0

-- ---- what closures answer

-- each call at a reference answers this test of what is there
abbrev pub Tells : {F A : Type 0} → Shared F (Bor A × Unit {0}) Bool → F → (A → Bool) → Type 0
Tells {F} {A} g f test = (x : Bor A) (b : Bool) → g.post f (x, tt) b → b ≡ test x.now

-- and each call at two references
abbrev pub TellsOfTwo :
    {F A : Type 0} → Shared F (Bor A × (Bor A × Unit {0})) Bool → F → (A → A → Bool) → Type 0
TellsOfTwo {F} {A} g f test = (x y : Bor A) (b : Bool) → g.post f (x, (y, tt)) b → b ≡ test x.now y.now

-- and each call at a number and a reference
abbrev pub TellsByKey :
    {F A : Type 0} → Shared F (ℕ × (Bor A × Unit {0})) Bool → F → (ℕ → A → Bool) → Type 0
TellsByKey {F} {A} g f test = (n : ℕ) (x : Bor A) (b : Bool) → g.post f (n, (x, tt)) b → b ≡ test n x.now

-- each call at a reference gives this number of what is there
abbrev pub Gives : {F A : Type 0} → Shared F (Bor A × Unit {0}) ℕ → F → (A → ℕ) → Type 0
Gives {F} {A} g f key = (x : Bor A) (n : ℕ) → g.post f (x, tt) n → n ≡ key x.now

-- ---- the four parts

-- a holding need not be above the one before it
abbrev pub holding_tests : ℕ → Tests ℕ
holding_tests roles = record { fits = g.set_fits roles; below = λ x y. true; filler = λ set. eqb set 0 }

abbrev pub permission_tests : ℕ → Tests Permission
permission_tests roles =
    record { fits = g.permission_fits roles; below = g.permission_below; filler = g.is_no_permission }

abbrev pub rule_tests : ℕ → Tests Rule
rule_tests roles = record { fits = g.rule_fits roles; below = g.rule_below; filler = g.is_no_rule }

abbrev pub duty_tests : Counts → ℕ → Tests Duty
duty_tests n next =
    record {
      fits = λ d. g.duty_fits n.users n.roles next d && window_fits d;
      below = g.duty_below;
      filler = g.is_no_duty;
    }
