-- What an instance is: its numbers, its edges, and when it is valid (Golden and Wong 1981).
use Rattle.std.specs.Prelude.{◌≡◌, ◌≢◌, ℕ, zero, suc, ◌+◌, ◌*◌, ◌<◌, ◌≤◌, Bool, List, [], ◌∷◌, ◌++◌, map, length, take, drop, sum_by, slice_index_or, if◌then◌else◌}
use Rattle.carp_base.specs.declared.edge.Edge.{Edge}
use Rattle.carp_base.specs.declared.edge.RawEdge.{RawEdge}
use Rattle.carp_base.specs.declared.edge.Task.{Task}

-- an instance as its numbers and its edges: the first `required` edges are those to be served
pub record Problem : Type 0 where
  pub vertices : ℕ
  pub depot : ℕ
  pub capacity : ℕ
  pub required : ℕ
  pub edges : List Edge

-- an edge that is to be served
abbrev pub required_edge : RawEdge → Edge
required_edge x = record { u = x.u; v = x.v; cost = x.cost; demand = x.demand; service = x.service }

-- an edge that need not be served: it has demand 0 and service cost 0, whatever is stated
abbrev pub other_edge : RawEdge → Edge
other_edge x = record { u = x.u; v = x.v; cost = x.cost; demand = 0; service = 0 }

-- the instance that is described by these numbers and lists
abbrev pub described : ℕ → ℕ → ℕ → List RawEdge → List RawEdge → Problem
described vertices depot capacity required others = record {
  vertices = vertices;
  depot = depot;
  capacity = capacity;
  required = length required;
  edges = map required_edge required ++ map other_edge others;
}

-- what stands where there is no edge: its ends are no vertices
abbrev pub no_edge : Edge
no_edge = record { u = 0; v = 0; cost = 0; demand = 0; service = 0 }

-- the edge of a number from 1; 0 and the numbers past the last one are of no edge
abbrev pub edge_at : Problem → ℕ → Edge
edge_at p zero = no_edge
edge_at p (suc k) = slice_index_or p.edges k no_edge

-- the number of an edge
pub record IsEdgeNumber (p : Problem) (e : ℕ) : Type 0 where
  pub from_one : 1 ≤ e
  pub in_range : e ≤ length p.edges

-- the number of an edge that is to be served
pub record IsRequired (p : Problem) (e : ℕ) : Type 0 where
  pub from_one : 1 ≤ e
  pub in_range : e ≤ p.required

-- the number of a vertex
pub record IsVertex (p : Problem) (v : ℕ) : Type 0 where
  pub from_one : 1 ≤ v
  pub in_range : v ≤ p.vertices

-- the edges that are to be served
abbrev pub required_edges : Problem → List Edge
required_edges p = take p.required p.edges

-- the edges that need not be served
abbrev pub other_edges : Problem → List Edge
other_edges p = drop p.required p.edges

-- the total demand
abbrev pub total_demand : Problem → ℕ
total_demand p = sum_by (λ x. x.demand) (required_edges p)

-- what it costs to serve each required edge once, with no deadhead
abbrev pub required_cost : Problem → ℕ
required_cost p = sum_by (λ x. x.service) (required_edges p)

-- the vertex where one starts who crosses an edge in this direction, and the vertex where one ends
abbrev pub tail_of : Edge → Bool → ℕ
tail_of x forward = if forward then x.u else x.v

abbrev pub head_of : Edge → Bool → ℕ
head_of x forward = if forward then x.v else x.u

-- crossing these edges, one after another, leads from one vertex to another
abbrev pub TasksLead : Problem → ℕ → List Task → ℕ → Type 0
TasksLead p a [] b = a ≡ b
TasksLead p a (t ∷ ts) b =
    IsEdgeNumber p t.edge × (tail_of (edge_at p t.edge) t.forward ≡ a) × TasksLead p (head_of (edge_at p t.edge) t.forward) ts b

-- a path leads from the depot to the vertex
pub record IsReached (p : Problem) (v : ℕ) : Type 0 where
  pub path : List Task
  pub leads : TasksLead p p.depot path v

-- the ends are two different vertices, and the cost is within its limit
pub record IsFineEdge (p : Problem) (x : Edge) : Type 0 where
  pub u_in : IsVertex p x.u
  pub v_in : IsVertex p x.v
  pub no_loop : x.u ≢ x.v
  pub cost_in : x.cost ≤ 1000000

-- a required edge can be served: a vehicle carries its demand and reaches it, and its service cost is within its limit
pub record IsFineTask (p : Problem) (e : ℕ) : Type 0 where
  pub some_demand : 1 ≤ (edge_at p e).demand
  pub demand_fits : (edge_at p e).demand ≤ p.capacity
  pub reached : IsReached p (edge_at p e).u
  pub service_in : (edge_at p e).service ≤ 1000000

-- an edge that need not be served has no demand and no service cost
pub record IsIdle (x : Edge) : Type 0 where
  pub no_demand : x.demand ≡ 0
  pub no_service : x.service ≡ 0

-- none of the faults of an instance applies, the required edges are among the edges, and the others have nothing to serve
pub record IsValid (p : Problem) : Type 0 where
  pub few_vertices : p.vertices ≤ 1000
  pub few_edges : length p.edges ≤ 4000
  pub few_required : p.required ≤ 600
  pub required_in : p.required ≤ length p.edges
  pub depot_in : IsVertex p p.depot
  pub some_capacity : 1 ≤ p.capacity
  pub capacity_in : p.capacity ≤ 30000
  pub few_states : 2 * p.required * (p.capacity + 1) ≤ 24000000
  pub edges : (e : ℕ) → IsEdgeNumber p e → IsFineEdge p (edge_at p e)
  pub tasks : (e : ℕ) → IsRequired p e → IsFineTask p e
  pub idle : (e : ℕ) → IsEdgeNumber p e → p.required < e → IsIdle (edge_at p e)
