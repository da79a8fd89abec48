-- Small data for the examples beside the tests. No public contract speaks of this.
use Rattle.std.specs.Prelude.{true, [], ◌∷◌}
use Rattle.carp_base.specs.declared.edge.Edge.{Edge}
use Rattle.carp_base.specs.Problem.{Problem}
use Rattle.path_scanning.specs.declared.candidate.Candidate.{Candidate}

-- a town of one lane that is to be served, and takes the whole capacity
abbrev pub lane : Edge
lane = record { u = 1; v = 2; cost = 5; demand = 2; service = 7 }

abbrev pub lane_town : Problem
lane_town = record { vertices = 2; depot = 1; capacity = 2; required = 1; edges = lane ∷ [] }

-- tasks that are as near as each other: one costs 2 for a unit of demand, and the other 3 for two
abbrev pub whole_price : Candidate
whole_price = record { task = record { edge = 1; forward = true }; near = 0; home = 5; service = 2; demand = 1 }

abbrev pub half_price : Candidate
half_price = record { task = record { edge = 2; forward = true }; near = 0; home = 4; service = 3; demand = 2 }
