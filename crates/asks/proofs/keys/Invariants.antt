-- `keys` is right: after i turns the first i keys stand in their places.
use Rattle.std.proofs.Common.{◌≡◌, length, take, map}
use Rattle.asks.proofs.keys.Given as goal

abbrev pub invariant-loop-i : goal.invariant-loop-i
invariant-loop-i g l =
    record { long : length l.keys ≡ g.row.N; are : take l.i l.keys ≡ map g.T.Keyed.key (take l.i l.records) }
