-- `permissions_from` meets its contract, by arithmetic. Rattle would find it alone; stated, a wrong place is
-- refused with the numbers that show it.
use native.Mathlib.Omega.{arith}
use Rattle.layout.proofs.permissions_from.Goals as goal

pub returns : goal.returns
returns c = omega arith
