-- A duty done, on a board that keeps the rules: the duty with its serial is that one, so the board after has
-- the holdings and the duties that the theory of orders says. Hence: green stays green.
use mathlib.Core.Path.{◌≡◌, refl, sym, ap, subst, ◌∙◌}
use mathlib.Core.Logic.{⊎_elim}
use Rattle.std.specs.Prelude.{Some}
use Prim.Native.Nat.{ℕ}
use native.Mathlib.Omega.{arith}
use borrow.Author.Tests.{eqb-true, eq-eqb}
use Rattle.orders.specs.Lists.{Mem, find}
use Rattle.orders.specs.Orders.{Pool}
use Rattle.orders.specs.Walks.{Next, without}
use Rattle.orders.proofs.Build.{same_serial}
use Rattle.orders.proofs.Lists.{any_mem, find_case, mid}
use Rattle.orders.proofs.Steps.{without_left, next_green}
use Rattle.orders.proofs.Tests.{clash}
use Rattle.board.specs.declared.Duty.{Duty}
use Rattle.board.specs.After.{named, did}
use Rattle.board.specs.Green.{Green, world_of}
use Rattle.board.specs.Open.{OpenWith}
use Rattle.board.specs.Permitted.{held_in}
use Rattle.board.specs.View.{View}
use Rattle.board.proofs.GoodLaws.{records→range}
use Rattle.board.proofs.PoolLaws.{duties_pool}
use Rattle.board.proofs.SayingLaws.{ViewFits}
use Rattle.permitted.proofs.Laws.{changed_holdings}

module _ (v : View) (fits : ViewFits v) where
  pub pool : Pool (world_of v) v.duties
  pool = duties_pool v fits.records

  -- two open duties with one serial are one
  pub one_duty : (d e : Duty) → Mem d v.duties → Mem e v.duties → d.serial.0 ≡ e.serial.0 → d ≡ e
  one_duty d e m n same = same_serial (world_of v) v.duties pool.distinct m n same

  -- what holds of the open duty with this serial holds of d, which has it
  pub of_named :
      (d : Duty) → Mem d v.duties → (serial : ℕ) → d.serial.0 ≡ serial → (Holds : Duty → Type 0)
      → OpenWith v serial Holds → Holds d
  of_named d m serial e Holds o =
      subst Holds (one_duty o.duty d o.open_duty m (o.has_serial ∙ sym e)) o.holds

  -- the duty with d's serial is d
  pub finds : (d : Duty) → Mem d v.duties → find (named d.serial.0) v.duties ≡ Some d
  finds d m =
      ⊎_elim
      (λ n. clash (any_mem (named d.serial.0) m (eq-eqb d.serial.0 d.serial.0 refl)) n.missed)
      (λ f.
      let x = f.x in
      let open_x : Mem x v.duties = rw f.is (mid f.earlier f.later) in
      let same : d.serial.0 ≡ x.serial.0 = eqb-true d.serial.0 x.serial.0 f.passes in
      f.finds ∙ ap Some (sym (one_duty d x m open_x same)))
      (find_case (named d.serial.0) v.duties)

  module _ (clock : ℕ) (d : Duty) (open_d : Mem d v.duties) where
    -- the holdings after d was done are those that the theory says
    pub did_held :
        held_in (did v clock d.serial.0).holdings ≡ (world_of v).after (held_in v.holdings) d
    did_held =
        let fit = ((records→range v fits.records).duties.each d open_d).what in
        rw (finds d open_d)
        (changed_holdings v.permissions v.rules v.holdings v.users v.roles
        (omega (arith, fits.held)) fits.roles d.what fit)

  -- a green board stays green when a duty is done that no open duty is wholly before
  pub did_green :
      (clock : ℕ) (d : Duty) → Next (world_of v) v.duties d → Green v → Green (did v clock d.serial.0)
  did_green clock d n g =
      let left = without_left (world_of v) v.duties d pool.distinct n.open_d in
      rw (did_held clock d n.open_d)
      (next_green (world_of v) v.duties (without (world_of v) d v.duties) d n left
      (held_in v.holdings) g)
