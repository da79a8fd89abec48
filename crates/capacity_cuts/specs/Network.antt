-- The network whose least cuts are the sets that are violated most.
use Rattle.std.specs.Prelude.{ℕ, zero, suc, ◌+◌, ◌-◌, ◌*◌, ◌==◌, nat_le, List, [], ◌∷◌, ◌++◌, if◌then◌else◌, sum_by, length}
use Rattle.carp_base.specs.Problem.{Problem, edge_at, required_edges}
use Rattle.plan_model.specs.Plans.{crosses}
use Rattle.flow_cut.specs.declared.network.Arc.{Arc}
use Rattle.edge_components.specs.Parts.{parts_of}

-- the demand met at a vertex
abbrev pub demand_at : Problem → ℕ → ℕ
demand_at p v = sum_by (λ y. if crosses (λ w. w == v) y then y.demand else 0) (required_edges p)

-- the room of an edge, in each direction
abbrev pub room_at : Problem → ℕ → List ℕ → ℕ → ℕ
room_at p unit x e = (if nat_le e p.required then unit * (p.capacity - (edge_at p e).demand) else 0) + p.capacity * parts_of x e

abbrev pub arc : ℕ → ℕ → ℕ → Arc
arc from to room = record { from = from; to = to; room = room }

-- two arcs for each of the edges 1 to n
abbrev pub edge_arcs : Problem → ℕ → List ℕ → ℕ → List Arc
edge_arcs p unit x zero = []
edge_arcs p unit x (suc n) =
    edge_arcs p unit x n
    ++ (arc (edge_at p (suc n)).u (edge_at p (suc n)).v (room_at p unit x (suc n))
    ∷ (arc (edge_at p (suc n)).v (edge_at p (suc n)).u (room_at p unit x (suc n)) ∷ []))

-- the source stands after all vertices
abbrev pub source : Problem → ℕ
source p = p.vertices + 1

-- an arc from the source to each of the vertices 1 to n
abbrev pub source_arcs : Problem → ℕ → ℕ → List Arc
source_arcs p unit zero = []
source_arcs p unit (suc n) = source_arcs p unit n ++ (arc (source p) (suc n) (unit * demand_at p (suc n)) ∷ [])

-- nodes 1 to vertices + 1; the target is the depot
abbrev pub network : Problem → ℕ → List ℕ → List Arc
network p unit x = edge_arcs p unit x (length p.edges) ++ source_arcs p unit p.vertices
