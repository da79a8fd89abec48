-- Small data for the examples beside the tests. No public contract speaks of this.
use Rattle.std.specs.Prelude.{ℕ, [], ◌∷◌}
use Rattle.carp_base.specs.declared.edge.Edge.{Edge}
use Rattle.carp_base.specs.Problem.{Problem}

-- a street to be served
abbrev pub street : ℕ → ℕ → Edge
street u v = record { u = u; v = v; cost = 5; demand = 1; service = 5 }

-- streets from the depot 1 by 2 to 3, one after another
abbrev pub row : Problem
row = record { vertices = 3; depot = 1; capacity = 2; required = 2; edges = street 1 2 ∷ street 2 3 ∷ [] }
