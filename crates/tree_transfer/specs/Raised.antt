-- An instance whose numbers rose, and some of whose other streets are closed.
use Rattle.std.specs.Prelude.{◌≡◌, ℕ, ◌≤◌}
use Rattle.carp_base.specs.declared.edge.Edge.{Edge}
use Rattle.carp_base.specs.Problem.{Problem, IsEdgeNumber, IsRequired, edge_at}

-- an edge with the same ends as another, which costs no less to cross and to serve, and has no less demand
pub record IsNoCheaper (old new : Edge) : Type 0 where
  pub u_same : new.u ≡ old.u
  pub v_same : new.v ≡ old.v
  pub cost : old.cost ≤ new.cost
  pub demand : old.demand ≤ new.demand
  pub service : old.service ≤ new.service

-- The vertices, the depot, the capacity and the numbers of the required edges are those of another instance; and each edge is one of its
-- edges, and no cheaper. The other edges may have other numbers there, and some of them may be left out.
pub record IsRaised (old new : Problem) : Type 0 where
  pub vertices : new.vertices ≡ old.vertices
  pub depot : new.depot ≡ old.depot
  pub capacity : new.capacity ≡ old.capacity
  pub required : new.required ≡ old.required
  pub number : ℕ → ℕ
  pub inside : (e : ℕ) → IsEdgeNumber new e → IsEdgeNumber old (number e)
  pub same : (e : ℕ) → IsRequired new e → number e ≡ e
  pub edges : (e : ℕ) → IsEdgeNumber new e → IsNoCheaper (edge_at old (number e)) (edge_at new e)
