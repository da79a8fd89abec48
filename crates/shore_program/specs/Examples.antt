-- Small data for the examples beside the tests. No public contract speaks of this.
use Rattle.std.specs.Prelude.{ℕ, [], ◌∷◌, pos}
use Rattle.carp_base.specs.declared.edge.Edge.{Edge}
use Rattle.carp_base.specs.Problem.{Problem}
use Rattle.cut_pool.specs.declared.shore.Weighted.{Weighted}
use Rattle.shore_program.specs.Programs.{ShoreProgram}

-- a street of cost 3 from the depot 1 to 2
abbrev pub street : Edge
street = record { u = 1; v = 2; cost = 3; demand = 1; service = 3 }

abbrev pub one_street : Problem
one_street = record { vertices = 2; depot = 1; capacity = 1; required = 1; edges = street ∷ [] }

-- the program of the shore of vertex 2, and the one of no shore
abbrev pub one_shore : ShoreProgram
one_shore = record { problem = one_street; shores = (2 ∷ []) ∷ [] }

abbrev pub no_shore : ShoreProgram
no_shore = record { problem = one_street; shores = [] }

-- the shore of vertex 2 with a weight
abbrev pub weighted_end : ℕ → Weighted
weighted_end weight = record { shore = 2 ∷ []; weight = pos weight }
