-- The edges at a vertex.
use Rattle.std.specs.Prelude.{ℕ, zero, suc, Bool, ◌==◌, ◌||◌, List, [], ◌∷◌, ◌++◌, length, count_by, nat_le, slice_index_or, if◌then◌else◌}
use Rattle.carp_base.specs.declared.edge.Edge.{Edge}
use Rattle.carp_base.specs.Problem.{Problem, no_edge}

-- one end of the edge is the vertex
abbrev pub has_end : ℕ → Edge → Bool
has_end v x = (x.u == v) || (x.v == v)

-- the end of an edge that is not the given one, where that is an end of it
abbrev pub far_end : ℕ → Edge → ℕ
far_end v x = if x.u == v then x.v else x.u

-- of the first k edges, the numbers of those with an end at the vertex, rising; the edge at place k has the number k + 1
abbrev pub incident_among : List Edge → ℕ → ℕ → List ℕ
incident_among edges zero v = []
incident_among edges (suc k) v = incident_among edges k v ++ (if has_end v (slice_index_or edges k no_edge) then suc k ∷ [] else [])

-- the numbers of the edges with an end at the vertex, rising
abbrev pub incident : Problem → ℕ → List ℕ
incident p v = incident_among p.edges (length p.edges) v

-- how many of the edges with an end at the vertex are required
abbrev pub required_degree_of : Problem → ℕ → ℕ
required_degree_of p v = count_by (λ e. nat_le e p.required) (incident p v)
