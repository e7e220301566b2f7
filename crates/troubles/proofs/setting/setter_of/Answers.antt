-- `setter_of` is right: in each case it is the definition's own words.
use mathlib.Core.Path.{refl}
use Rattle.troubles.proofs.setting.setter_of.Goals as goal
use Rattle.troubles.proofs.setting.setter_of.Goals.{in-Grant, in-Revoke}

pub returns : goal.returns
returns c =
    elim c.match-d.branch [
      | in-Grant w ↦ rw (w.user-is, w.in-Grant.is, w.with_role.ensures) refl
      | in-Revoke w ↦ rw (w.user-is, w.in-Revoke.is, w.with_role-in-Revoke.ensures) refl
    ]

pub returns-in-Use : goal.returns-in-Use
returns-in-Use c = rw c.in-Use.is refl
