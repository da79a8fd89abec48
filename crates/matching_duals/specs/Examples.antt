-- Small data for the examples beside the tests. No public contract speaks of this.
use Rattle.std.specs.Prelude.{ℕ, List, [], ◌∷◌, pos}
use Rattle.cut_pool.specs.declared.shore.Weighted.{Weighted}
use Rattle.carp_base.specs.declared.edge.Edge.{Edge}
use Rattle.carp_base.specs.Problem.{Problem}

-- a street to be served
abbrev pub street : ℕ → ℕ → ℕ → Edge
street u v cost = record { u = u; v = v; cost = cost; demand = 1; service = cost }

-- one street of cost 5 from the depot 1 to 2
abbrev pub one_street : Problem
one_street = record { vertices = 2; depot = 1; capacity = 9; required = 1; edges = street 1 2 5 ∷ [] }

-- the vertex 2 with three halves, and 2 and 3 with four
abbrev pub two_shores : List Weighted
two_shores = record { shore = 2 ∷ []; weight = pos 3 } ∷ record { shore = 2 ∷ 3 ∷ []; weight = pos 4 } ∷ []
