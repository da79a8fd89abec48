-- Small data for the examples beside the tests. No public contract speaks of this.
use Rattle.std.specs.Prelude.{ℕ, [], ◌∷◌}
use Rattle.carp_base.specs.declared.edge.Edge.{Edge}
use Rattle.carp_base.specs.Problem.{Problem}

abbrev pub lane : ℕ → Edge
lane demand = record { u = 1; v = 2; cost = 5; demand = demand; service = 7 }

-- a town with nothing to serve
abbrev pub idle_town : Problem
idle_town = record { vertices = 1; depot = 1; capacity = 1; required = 0; edges = [] }

-- a town of four lanes that are to be served
abbrev pub lanes_town : Problem
lanes_town = record { vertices = 2; depot = 1; capacity = 10; required = 4; edges = lane 3 ∷ lane 6 ∷ lane 2 ∷ lane 6 ∷ [] }
