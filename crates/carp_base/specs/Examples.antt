-- Small data for the examples beside the tests. No public contract speaks of this.
use Rattle.std.specs.Prelude.{true, false, [], ◌∷◌}
use Rattle.carp_base.specs.declared.edge.Edge.{Edge}
use Rattle.carp_base.specs.declared.edge.Task.{Task}
use Rattle.carp_base.specs.Problem.{Problem, described}
use Rattle.carp_base.specs.Allowed.{Relation}

-- an edge that need not be served, with a demand
abbrev pub busy_edge : Edge
busy_edge = record { u = 1; v = 2; cost = 0; demand = 1; service = 0 }

-- a description in which the capacity and the depot are out of range
abbrev pub nothing : Problem
nothing = described 0 0 0 [] []

-- two streets, from vertex 1 to 2 and from 2 to 3, of which the first is to be served
abbrev pub two_streets : Problem
two_streets = record {
  vertices = 3;
  depot = 1;
  capacity = 1;
  required = 1;
  edges = record { u = 1; v = 2; cost = 5; demand = 1; service = 5 } ∷ record { u = 2; v = 3; cost = 5; demand = 0; service = 0 } ∷ [];
}

-- the same two streets, both to be served by vehicles that carry 1
abbrev pub two_tasks : Problem
two_tasks = record {
  vertices = 3;
  depot = 1;
  capacity = 1;
  required = 2;
  edges = record { u = 1; v = 2; cost = 5; demand = 1; service = 5 } ∷ record { u = 2; v = 3; cost = 5; demand = 1; service = 5 } ∷ [];
}

abbrev pub first_forward : Task
first_forward = record { edge = 1; forward = true }

abbrev pub second_forward : Task
second_forward = record { edge = 2; forward = true }

abbrev pub second_backward : Task
second_backward = record { edge = 2; forward = false }

-- two edges that may be neighbours
abbrev pub pair_in : Relation
pair_in = record { size = 2; table = false ∷ true ∷ true ∷ false ∷ [] }

-- two edges that may not
abbrev pub pair_out : Relation
pair_out = record { size = 2; table = false ∷ false ∷ false ∷ false ∷ [] }

-- two edges of which the second may follow the first, and the first not the second
abbrev pub one_order : Relation
one_order = record { size = 2; table = false ∷ true ∷ false ∷ false ∷ [] }
