-- Orders that serve the same. No public contract speaks of this.
use Rattle.std.specs.Prelude.{ℕ, List, map}
use Rattle.std.specs.List.Sorted.{IsPermutation}
use Rattle.carp_base.specs.declared.edge.Task.{Task}

-- the edge of each task of an order
abbrev pub task_edges : List Task → List ℕ
task_edges order = map (λ t. t.edge) order

-- the tasks of both orders are on the same edges, in whatever order and directions
pub record ServeAlike (before after : List Task) : Type 0 where
  pub edges : IsPermutation (task_edges before) (task_edges after)
