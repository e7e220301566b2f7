-- `admit::duty_asked` meets its contract: what is to be done is what the numbers say.
use Rattle.admit.proofs.duty_asked.Goals as goal

pub returns : goal.returns
returns c = rw c.what_of-what.ensures
