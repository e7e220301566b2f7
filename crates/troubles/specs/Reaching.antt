-- The three sets of part (a) together: the most that the duties wholly before d can make of the doer's set
-- and of the target's, and the least that they can make of the target's.
use Rattle.std.specs.Prelude.{Bool, ◌&&◌, cond, List, ℕ}
use Rattle.roles.specs.Roles.{in_set}
use Rattle.permitted.specs.Meets.{meets_sets}
use Rattle.asks.specs.declared.Ask.{Ask}
use Rattle.board.specs.declared.Duty.{Duty}
use Rattle.board.specs.Windows.{wholly_before}
use Rattle.troubles.specs.declared.pairs.Reach.{Reach}
use Rattle.quick_criterion.specs.Tests.{granted, revoked, most, least}

-- one duty more
abbrev pub reach_with : Duty → Ask → Reach → Duty → Reach
reach_with d ask reach g =
    record {
      own = cond (wholly_before g d) (granted d.doer g.what reach.own) reach.own;
      most = cond (wholly_before g d) (granted ask.target g.what reach.most) reach.most;
      least = cond (wholly_before g d) (revoked ask.target g.what reach.least) reach.least;
    }

-- all the duties of a list, from the doer's and the target's sets
abbrev pub reach_of : Duty → Ask → ℕ → ℕ → List Duty → Reach
reach_of d ask own theirs l =
    record {
      own = most d d.doer own l;
      most = most d ask.target theirs l;
      least = least d ask.target theirs l;
    }

-- each need is right with these sets
abbrev pub met_with : Reach → Ask → Bool
met_with reach ask =
    in_set reach.own ask.actor
    && (meets_sets reach.most ask.wanted 0 && meets_sets reach.least 0 ask.barred)
