-- `show_rest` ends: one duty fewer is left at each call.
use Rattle.show.proofs.walk.+show_rest.Given as goal

-- how many duties are left
abbrev pub decreases-show_rest : goal.decreases-show_rest
decreases-show_rest g l = l.left
