-- Small data for the examples beside the tests. No public contract speaks of this.
use Rattle.std.specs.Prelude.{ℕ, List, [], ◌∷◌}
use Rattle.carp_base.specs.declared.edge.Edge.{Edge}
use Rattle.carp_base.specs.Problem.{Problem}
use Rattle.group_search.specs.Flows.{FlowTable}

-- a street to be served
abbrev pub street : ℕ → ℕ → Edge
street u v = record { u = u; v = v; cost = 5; demand = 2; service = 5 }

-- streets from the depot 1 by 2 to 3, one after another, each with a demand of 2
abbrev pub row : Problem
row = record { vertices = 3; depot = 1; capacity = 3; required = 2; edges = street 1 2 ∷ street 2 3 ∷ [] }

-- so much flow between both streets, and so much between each of them and the depot
abbrev pub flow_of : ℕ → ℕ → FlowTable
flow_of joined apart = record { services = 2; amounts = 0 ∷ apart ∷ apart ∷ apart ∷ 0 ∷ joined ∷ apart ∷ joined ∷ 0 ∷ [] }

-- one tour serves both streets, one after the other
abbrev pub one_tour : FlowTable
one_tour = flow_of 1048576 1048576

-- two tours serve one street each
abbrev pub two_tours : FlowTable
two_tours = flow_of 0 2097152

-- both streets
abbrev pub both : List ℕ
both = 1 ∷ 2 ∷ []
