-- Small data for the examples beside the tests. No public contract speaks of this.
use Rattle.std.specs.Prelude.{List, [], ◌∷◌, true, false}
use Rattle.carp_base.specs.declared.edge.Edge.{Edge}
use Rattle.carp_base.specs.Problem.{Problem}
use Rattle.plan_model.specs.declared.step.Step.{Step}

-- a town of one lane, where nothing is to be served
abbrev pub idle_lane : Edge
idle_lane = record { u = 1; v = 2; cost = 5; demand = 0; service = 0 }

abbrev pub idle_town : Problem
idle_town = record { vertices = 2; depot = 1; capacity = 2; required = 0; edges = idle_lane ∷ [] }

-- a walk along the lane and back
abbrev pub out_and_home : List Step
out_and_home = record { edge = 1; forward = true; served = false } ∷ record { edge = 1; forward = false; served = false } ∷ []
