-- Small data for the examples beside the tests. No public contract speaks of this.
use Rattle.std.specs.Prelude.{ℕ, List, [], ◌∷◌, pos}
use Rattle.cut_pool.specs.declared.shore.Weighted.{Weighted}
use Rattle.carp_base.specs.declared.edge.Edge.{Edge}
use Rattle.carp_base.specs.Problem.{Problem}

-- a street to be served
abbrev pub street : ℕ → ℕ → ℕ → Edge
street u v demand = record { u = u; v = v; cost = 5; demand = demand; service = 5 }

-- streets from the depot 1 by 2 to 3, one after another
abbrev pub row : Problem
row = record { vertices = 3; depot = 1; capacity = 2; required = 2; edges = street 1 2 2 ∷ street 2 3 2 ∷ [] }

-- the vertices 2 and 3 with three levels, and 3 with four
abbrev pub two_shells : List Weighted
two_shells = record { shore = 2 ∷ 3 ∷ []; weight = pos 3 } ∷ record { shore = 3 ∷ []; weight = pos 4 } ∷ []
