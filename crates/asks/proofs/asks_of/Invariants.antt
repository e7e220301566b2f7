-- `asks_of` is right: the duties passed so far have what is asked for them.
use Rattle.asks.proofs.Asking.{Asked}
use Rattle.asks.proofs.asks_of.Given as goal

abbrev pub invariant-loop-i : goal.invariant-loop-i
invariant-loop-i l = Asked l.b l.duties l.i l.asks
