-- Header and parts are put one after the other, and each has room, since the file is as long as they are.
use mathlib.Core.Path.{refl}
use native.Mathlib.Omega.{arith}
use Rattle.save.proofs.FileLaws.{saved_parts, file_put}
use Rattle.save.proofs.put_file.Goals as goal

pub put_header-requires : goal.put_header-requires
put_header-requires c = omega (arith, saved_parts c.args.b.now refl refl refl refl, c.requires.room)

pub put_part-requires : goal.put_part-requires
put_part-requires c =
    omega (arith, saved_parts c.args.b.now c.users.ensures refl refl refl, c.requires.room)

pub put_part-requires-2 : goal.put_part-requires-2
put_part-requires-2 c =
    let long = saved_parts c.args.b.now c.users.ensures c.permissions.ensures refl refl in
    omega (arith, long, c.requires.room)

pub put_part-requires-3 : goal.put_part-requires-3
put_part-requires-3 c =
    let long = saved_parts c.args.b.now c.users.ensures c.permissions.ensures c.rules.ensures refl in
    omega (arith, long, c.requires.room)

pub put_part-requires-4 : goal.put_part-requires-4
put_part-requires-4 c =
    let long =
    saved_parts c.args.b.now c.users.ensures c.permissions.ensures c.rules.ensures c.duties.ensures in
    omega (arith, long, c.requires.room)

pub returns : goal.returns
returns c =
    file_put c.args.b.now c.requires.counts c.put_header.ensures
    (rw c.users.ensures at c.put_part.ensures)
    (rw c.permissions.ensures at c.put_part-2.ensures)
    (rw c.rules.ensures at c.put_part-3.ensures)
    (rw c.duties.ensures at c.put_part-4.ensures)
