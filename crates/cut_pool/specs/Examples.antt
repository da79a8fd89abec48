-- Small data for the examples beside the tests. No public contract speaks of this.
use Rattle.std.specs.Prelude.{ℕ, [], ◌∷◌}
use Rattle.carp_base.specs.declared.edge.Edge.{Edge}
use Rattle.carp_base.specs.Problem.{Problem}

-- a required edge
abbrev pub loaded_street : ℕ → ℕ → ℕ → Edge
loaded_street u v demand = record { u = u; v = v; cost = 5; demand = demand; service = 5 }

-- streets of demand 2 and 1, one after another, from the depot 1 by 2 to 3
abbrev pub in_a_row : ℕ → Problem
in_a_row capacity = record { vertices = 3; depot = 1; capacity = capacity; required = 2; edges = loaded_street 1 2 2 ∷ loaded_street 2 3 1 ∷ [] }

-- three streets of demand 1 from the depot 1 to 2, of which so many are to be served
abbrev pub side_by_side : ℕ → Problem
side_by_side required = record { vertices = 2; depot = 1; capacity = 9; required = required; edges = loaded_street 1 2 1 ∷ loaded_street 1 2 1 ∷ loaded_street 1 2 1 ∷ [] }

-- two streets of demand 3 from the depot 1 to 2
abbrev pub two_loads : Problem
two_loads = record { vertices = 2; depot = 1; capacity = 5; required = 2; edges = loaded_street 1 2 3 ∷ loaded_street 1 2 3 ∷ [] }
