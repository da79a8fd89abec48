-- Small data for the examples and the tests. No public contract speaks of this.
use Rattle.std.specs.Prelude.{ℕ, true, false, List, [], ◌∷◌}
use Rattle.carp_base.specs.declared.edge.RawEdge.{RawEdge}
use Rattle.carp_base.specs.declared.edge.Task.{Task}
use Rattle.carp_base.specs.Problem.{Problem, described}
use Rattle.plan_model.specs.declared.step.Step.{Step}

-- an edge whose service costs as much as a crossing
abbrev pub raw_street : ℕ → ℕ → ℕ → ℕ → RawEdge
raw_street u v cost demand = record { u = u; v = v; cost = cost; demand = demand; service = cost }

-- a triangle of three streets at the depot, which fit one vehicle
abbrev pub triangle : Problem
triangle = described 3 1 3 (raw_street 1 2 5 1 ∷ raw_street 2 3 7 1 ∷ raw_street 1 3 4 1 ∷ []) []

-- a triangle of three streets far from the depot, of which no two fit one vehicle
abbrev pub far_triangle : Problem
far_triangle = described 4 1 3 (raw_street 2 3 1 2 ∷ raw_street 3 4 1 2 ∷ raw_street 4 2 1 2 ∷ []) (raw_street 1 2 10 0 ∷ [])

-- one vertex without edges
abbrev pub lone_depot : Problem
lone_depot = described 1 1 3 [] []

abbrev pub on_street : ℕ → Task
on_street e = record { edge = e; forward = true }

abbrev pub against_street : ℕ → Task
against_street e = record { edge = e; forward = false }

abbrev pub service : ℕ → Step
service e = record { edge = e; forward = true; served = true }

abbrev pub crossing : ℕ → Step
crossing e = record { edge = e; forward = false; served = false }

-- the second street alone, and the other two
abbrev pub second_walk : List Step
second_walk = crossing 1 ∷ service 2 ∷ crossing 3 ∷ []

abbrev pub outer_walk : List Step
outer_walk = service 1 ∷ crossing 1 ∷ service 3 ∷ crossing 3 ∷ []
