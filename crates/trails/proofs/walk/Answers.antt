-- `trails::walk` meets its contract: the four calls do the four parts of the trail, or stop where a duty is
-- not permitted.
use Rattle.std.proofs.Common.{rules, ◌≡◌, refl, Err, Some}
use Rattle.trails.specs.Walking.{Found}
use Rattle.trails.proofs.Walks.{stuck_first, stuck_second, stuck_third, walked}
use Rattle.trails.proofs.walk.Goals as goal
use Rattle.trails.proofs.walk.Goals.{In-Some-with_serial}

-- the two duties were found
found_x :
    (c : In-Some-with_serial)
    → Found c.args.all.duties.now c.args.all.asks.now c.args.spoiler.0 (Some (c.in-Some.x, c.in-Some.x_ask))
found_x c = rw c.in-Some.is at c.with_serial.ensures

found_d :
    (c : In-Some-with_serial)
    → Found c.args.all.duties.now c.args.all.asks.now c.args.stuck.0
    (Some (c.in-Some-with_serial.d, c.in-Some-with_serial.d_ask))
found_d c = rw c.in-Some-with_serial.is at c.with_serial-2.ensures

pub returns-in_err-first : goal.returns-in_err-first
returns-in_err-first c =
    let p = (goal.at.returns-in_err-first c).In-Some-with_serial in
    let is : c.from_residual.result ≡ Err c.in_err-first.field-0.0 = search rules in
    rw is
    (stuck_first _ _ _ _ _ _ _ (found_x p) (found_d p) (rw c.in_err-first.was at c.do_part.ensures) refl)

pub returns-in_err-second : goal.returns-in_err-second
returns-in_err-second c =
    let p = (goal.at.returns-in_err-second c).In-Some-with_serial in
    let is : c.from_residual-in_err-second.result ≡ Err c.in_err-second.field-0.0 = search rules in
    rw is
    (stuck_second _ _ _ _ _ _ _ (found_x p) (found_d p) (rw c.in_ok-first.was at c.do_part.ensures)
    (rw c.in_err-second.was at c.do_one.ensures) refl)

pub returns-in_err-third : goal.returns-in_err-third
returns-in_err-third c =
    let p = (goal.at.returns-in_err-third c).In-Some-with_serial in
    let is : c.from_residual-in_err-third.result ≡ Err c.in_err-third.field-0.0 = search rules in
    rw is
    (stuck_third _ _ _ _ _ _ _ (found_x p) (found_d p) (rw c.in_ok-first.was at c.do_part.ensures)
    (rw c.in_ok-second.was at c.do_one.ensures) (rw c.in_err-third.was at c.do_part-2.ensures) refl)

pub returns : goal.returns
returns c =
    let p = (goal.at.returns c).In-Some-with_serial in
    walked _ _ _ _ _ _ _ (found_x p) (found_d p) (rw c.in_ok-first.was at c.do_part.ensures)
    (rw c.in_ok-second.was at c.do_one.ensures) (rw c.in_ok-third.was at c.do_part-2.ensures)
    c.do_one-2.ensures
