-- Distances that a table tells, and paths between matched vertices, joined by parity. No public contract speaks of this.
use Rattle.std.specs.Prelude.{◌≡◌, ℕ, ◌+◌, ◌*◌, ◌%◌, ◌<◌, ◌≤◌, ◌==◌, ◌⊎◌, List, [], ◌∷◌, ◌++◌, if◌then◌else◌, sum_by, count_by, length, slice_index}
use Rattle.carp_base.specs.Problem.{Problem, IsVertex, IsEdgeNumber, edge_at}
use Rattle.plan_model.specs.declared.step.Step.{Step}
use Rattle.deadhead_paths.specs.Prices.{price_of, costs_of, IsLeastPrice, NoneLead}
use Rattle.edge_components.specs.Parts.{parts_of}

-- no distance is above this, which also stands where no steps lead
abbrev pub far : ℕ
far = 1000000000

-- the distance between two vertices by cost, or `far` where no steps lead from one to the other
abbrev pub IsReach : Problem → ℕ → ℕ → ℕ → Type 0
IsReach p v x n = IsLeastPrice p (price_of (costs_of p)) v x n ⊎ ((n ≡ far) × NoneLead p v x)

-- the distance from one vertex to another, which stands in the row of the other
abbrev pub reach : Problem → List ℕ → ℕ → ℕ → ℕ
reach p table v x = slice_index table (x * (p.vertices + 1) + v)

-- the distances between all vertices, row by row
pub record AreReaches (p : Problem) (table : List ℕ) : Type 0 where
  pub long : length table ≡ (p.vertices + 1) * (p.vertices + 1)
  pub each : (v x : ℕ) → IsVertex p v → IsVertex p x → IsReach p v x (reach p table v x)
  pub small : (k : ℕ) → slice_index table k ≤ far

-- the row of a vertex was added to a table: a place for 0, and the distance from each vertex
pub record AddsRow (p : Problem) (x : ℕ) (before after : List ℕ) : Type 0 where
  pub long : length after ≡ length before + (p.vertices + 1)
  pub kept : (k : ℕ) → k < length before → slice_index after k ≡ slice_index before k
  pub each : (v : ℕ) → IsVertex p v → IsReach p v x (slice_index after (length before + v))
  pub small : (k : ℕ) → slice_index after k ≤ far

-- a matched pair, and steps from one to the other
pub record Pair : Type 0 where
  pub from : ℕ
  pub to : ℕ
  pub steps : List Step

abbrev pub all_steps : List Pair → List Step
all_steps [] = []
all_steps (j ∷ pairs) = j.steps ++ all_steps pairs

-- how often pairs end at the vertex
abbrev pub ends_met : List Pair → ℕ → ℕ
ends_met [] v = 0
ends_met (j ∷ pairs) v = ((if j.from == v then 1 else 0) + (if j.to == v then 1 else 0)) + ends_met pairs v

abbrev pub steps_cost : Problem → List Step → ℕ
steps_cost p steps = sum_by (λ s. (edge_at p s.edge).cost) steps

-- for each edge 1 or 0, as the steps on it are odd or even in number
pub record AreParities (p : Problem) (steps : List Step) (counts : List ℕ) : Type 0 where
  pub one_each : length counts ≡ length p.edges
  pub each : (e : ℕ) → IsEdgeNumber p e → parts_of counts e ≡ count_by (λ s. s.edge == e) steps % 2
