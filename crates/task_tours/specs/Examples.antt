-- Small data for the examples beside the tests. No public contract speaks of this.
use Rattle.std.specs.Prelude.{ℕ, true, false, List, [], ◌∷◌}
use Rattle.carp_base.specs.declared.edge.Task.{Task}
use Rattle.carp_base.specs.Problem.{Problem}
use Rattle.plan_model.specs.declared.step.Step.{Step}

-- a town of the depot, a lane to 2 that is to be served, and an alley to 3 that is not
abbrev pub lane_and_alley : Problem
lane_and_alley = record {
  vertices = 3;
  depot = 1;
  capacity = 2;
  required = 1;
  edges = record { u = 1; v = 2; cost = 5; demand = 2; service = 7 } ∷ record { u = 1; v = 3; cost = 1; demand = 0; service = 0 } ∷ [];
}

-- the lane served from the depot, and served towards it
abbrev pub lane_out : Task
lane_out = record { edge = 1; forward = true }

abbrev pub lane_home : Task
lane_home = record { edge = 1; forward = false }

-- the alley, which is not to be served
abbrev pub alley_out : Task
alley_out = record { edge = 2; forward = true }

-- the lane is served, and crossed home
abbrev pub lane_walk : List Step
lane_walk = record { edge = 1; forward = true; served = true } ∷ record { edge = 1; forward = false; served = false } ∷ []

-- each edge is free
abbrev pub free : ℕ → ℕ
free e = 0
