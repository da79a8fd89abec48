-- Components of the edges with at least so many parts.
use Rattle.std.specs.Prelude.{◌↔◌, ℕ, ◌≤◌, Bool, List, IsTrue, map, slice_index}
use Rattle.std.specs.List.{All, AllByRecursion, Contains}
use Rattle.std.specs.List.Sorted.{IsStrictlyIncreasing}
use Rattle.carp_base.specs.declared.edge.Task.{Task}
use Rattle.carp_base.specs.Problem.{Problem, IsVertex, TasksLead}
use Rattle.cut_pool.specs.Shores.{is_in, IsShore, Belongs, required_crossings, touched}
use Rattle.edge_components.specs.Parts.{parts_of, parts_over}

-- edges with at least so many parts lead from one vertex to the other, each in either direction
pub record AreJoined (p : Problem) (x : List ℕ) (least a b : ℕ) : Type 0 where
  pub path : List Task
  pub leads : TasksLead p a path b
  pub strong : AllByRecursion (λ t. least ≤ parts_of x t.edge) path

-- a set of vertices that are joined to each other and to no others; a vertex that is joined to no other is one by itself
pub record IsComponent (p : Problem) (x : List ℕ) (least : ℕ) (shore : List ℕ) : Type 0 where
  pub is_shore : IsShore shore
  pub vertices : All (IsVertex p) shore
  pub joined : (v w : ℕ) → IsTrue (is_in shore v) → IsVertex p w → IsTrue (is_in shore w) ↔ AreJoined p x least v w

-- the least vertex of a shore, which is its first one
abbrev pub least_vertex : List ℕ → ℕ
least_vertex shore = slice_index shore 0

-- just the shores of a kind, each once, in the order of their least vertices
pub record AreAll (P : List ℕ → Type 0) (shores : List (List ℕ)) : Type 0 where
  pub sound : All P shores
  pub complete : (shore : List ℕ) → P shore → Contains shores shore
  pub ordered : IsStrictlyIncreasing (map least_vertex shores)

-- a component without the depot that passes a test of its required crossings, its touched demand, and the parts over it
pub record PassesTest (p : Problem) (x : List ℕ) (least : ℕ) (test : ℕ → ℕ → ℕ → Bool) (shore : List ℕ) : Type 0 where
  pub component : IsComponent p x least shore
  pub belongs : Belongs p shore
  pub passes : IsTrue (test (required_crossings p (is_in shore)) (touched p (is_in shore)) (parts_over p x (is_in shore)))
