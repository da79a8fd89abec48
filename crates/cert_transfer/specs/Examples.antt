-- Small data for the examples beside the tests. No public contract speaks of this.
use Rattle.std.specs.Prelude.{ℕ, true, false, [], ◌∷◌}
use Rattle.carp_base.specs.declared.edge.RawEdge.{RawEdge}
use Rattle.carp_base.specs.declared.edge.Task.{Task}
use Rattle.carp_base.specs.Problem.{Problem, described}

-- a street of this demand from the depot to a vertex, whose service costs as much as a crossing
abbrev pub street_to : ℕ → ℕ → RawEdge
street_to v demand = record { u = 1; v = v; cost = 1; demand = demand; service = 1 }

-- four streets at the depot, of demand 2, 2, 2 and 3, and vehicles of capacity 4
abbrev pub star : Problem
star = described 5 1 4 (street_to 2 2 ∷ street_to 3 2 ∷ street_to 4 2 ∷ street_to 5 3 ∷ []) []

abbrev pub out : ℕ → Task
out e = record { edge = e; forward = true }

abbrev pub home : ℕ → Task
home e = record { edge = e; forward = false }
