-- `users_of` is right: the setters passed have their users.
use Rattle.troubles.proofs.Filled.{Filled}
use Rattle.troubles.proofs.setting.users_of.Given as goal

abbrev pub invariant-loop-k : goal.invariant-loop-k
invariant-loop-k l = Filled (λ x. x.user) l.setters l.k l.users
