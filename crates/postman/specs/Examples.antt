-- Small data for the examples beside the tests. No public contract speaks of this.
use Rattle.std.specs.Prelude.{ℕ, Bool, true, false, List, [], ◌∷◌, pos}
use Rattle.cut_pool.specs.declared.shore.Weighted.{Weighted}
use Rattle.carp_base.specs.declared.edge.Edge.{Edge}
use Rattle.carp_base.specs.Problem.{Problem}
use Rattle.plan_model.specs.declared.step.Step.{Step}

-- a street of cost 5 to be served at cost 7
abbrev pub street : ℕ → ℕ → Edge
street u v = record { u = u; v = v; cost = 5; demand = 1; service = 7 }

-- one street from the depot 1 to 2
abbrev pub one_street : Problem
one_street = record { vertices = 2; depot = 1; capacity = 9; required = 1; edges = street 1 2 ∷ [] }

-- no streets
abbrev pub no_street : Problem
no_street = record { vertices = 1; depot = 1; capacity = 9; required = 0; edges = [] }

-- two streets from 1 to 2 that are not to be served and cost nothing
abbrev pub free_streets : Problem
free_streets =
    let free : Edge = record { u = 1; v = 2; cost = 0; demand = 0; service = 0 } in
    record { vertices = 2; depot = 1; capacity = 9; required = 0; edges = free ∷ free ∷ [] }

-- a street from 2 to 3 that is to be served, and one from the depot 1 to 2 that is not
abbrev pub street_apart : Problem
street_apart = record { vertices = 3; depot = 1; capacity = 9; required = 1; edges = street 2 3 ∷ record { u = 1; v = 2; cost = 5; demand = 0; service = 0 } ∷ [] }

-- a step over the first edge
abbrev pub over : Bool → Bool → Step
over forward served = record { edge = 1; forward = forward; served = served }

-- out with service and back without; with service both ways; and to and fro once more
abbrev pub out_and_back : List Step
out_and_back = over true true ∷ over false false ∷ []

abbrev pub served_twice : List Step
served_twice = over true true ∷ over false true ∷ []

abbrev pub once_more : List Step
once_more = over true true ∷ over false false ∷ over true false ∷ over false false ∷ []

-- out over the first street and back over the second one, without service
abbrev pub idle_trip : List Step
idle_trip = over true false ∷ record { edge = 2; forward = false; served = false } ∷ []

-- the vertex 2 with ten halves
abbrev pub one_shore : List Weighted
one_shore = record { shore = 2 ∷ []; weight = pos 10 } ∷ []
