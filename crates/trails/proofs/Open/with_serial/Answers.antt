-- `Open::with_serial` is right: where no place was found none has the serial.
use Rattle.std.proofs.Common.{rules, tests, ◌≡◌, true, false}
use Rattle.std.proofs.lemmas.Iterator.{YieldsList-from_slice, IsFirst-from_position}
use lib.Dec.{eqb}
use Rattle.trails.proofs.Walks.{nowhere}
use Rattle.trails.proofs.Open.with_serial.Goals as goal

pub returns-in_err-place : goal.returns-in_err-place
returns-in_err-place c =
    let first =
    IsFirst-from_position _ _ _
    (λ d. eqb d.serial.0 c.args.serial.0 ≡ true) (λ d. eqb d.serial.0 c.args.serial.0 ≡ false)
    c.position.ensures.ran (YieldsList-from_slice c.args.self.now.duties.now cc)
    (λ x q k. search (rules, tests)) (λ x q k. search (rules, tests)) in
    rw c.from_residual.ensures
    (nowhere c.args.self.now.duties.now c.args.serial.0 (rw c.in_err-place.was at first))
