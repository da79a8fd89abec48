-- Deadheads on edges in parts of a unit, and those that cross a set of vertices.
use Rattle.std.specs.Prelude.{◌≡◌, ℕ, zero, suc, ◌≤◌, Bool, List, length, slice_index, if◌then◌else◌}
use Rattle.carp_base.specs.Problem.{Problem, IsEdgeNumber, edge_at}
use Rattle.plan_model.specs.Plans.{crosses}
use Rattle.plan_model.specs.Sums.{sum_to}

-- the parts on the edge of a number from 1; 0 and the numbers past the last one have none
abbrev pub parts_of : List ℕ → ℕ → ℕ
parts_of x zero = 0
parts_of x (suc k) = slice_index x k

-- the parts on the edges with exactly one end inside
abbrev pub parts_over : Problem → List ℕ → (ℕ → Bool) → ℕ
parts_over p x inside = sum_to (length p.edges) (λ e. if crosses inside (edge_at p e) then parts_of x e else 0)

-- one number for each edge, none above 10^12
pub record AreParts (p : Problem) (x : List ℕ) : Type 0 where
  pub one_each : length x ≡ length p.edges
  pub small : (e : ℕ) → IsEdgeNumber p e → parts_of x e ≤ 1000000000000
