-- Steps, walks and plans of an instance (Golden and Wong 1981).
use Rattle.std.specs.Prelude.{◌≡◌, ℕ, ◌≤◌, Bool, ◌&&◌, ◌==◌, not, List, [], ◌∷◌, if◌then◌else◌, sum_by, count_by, slice_index_or, IsTrue, false}
use Rattle.std.specs.List.{flat_map, AllByRecursion, All}
use Rattle.carp_base.specs.declared.edge.Edge.{Edge}
use Rattle.carp_base.specs.Problem.{Problem, edge_at, tail_of, head_of, IsEdgeNumber, IsRequired}
use Rattle.plan_model.specs.declared.step.Step.{Step}

abbrev pub no_step : Step
no_step = record { edge = 0; forward = false; served = false }

-- the step at a place from 0
abbrev pub step_at : List Step → ℕ → Step
step_at walk i = slice_index_or walk i no_step

-- the walk at a place from 0
abbrev pub walk_at : List (List Step) → ℕ → List Step
walk_at plan i = slice_index_or plan i []

-- the steps lead from one vertex to another
abbrev pub Leads : Problem → ℕ → List Step → ℕ → Type 0
Leads p a [] b = a ≡ b
Leads p a (s ∷ steps) b =
    IsEdgeNumber p s.edge × (tail_of (edge_at p s.edge) s.forward ≡ a) × Leads p (head_of (edge_at p s.edge) s.forward) steps b

-- a walk leads from the depot to the depot; the empty list is one
abbrev pub IsWalk : Problem → List Step → Type 0
IsWalk p walk = Leads p p.depot walk p.depot

-- the steps are on edges of the instance
abbrev pub IsOnEdges : Problem → List Step → Type 0
IsOnEdges p walk = All (λ s. IsEdgeNumber p s.edge) walk

-- a step costs its edge's service cost where it serves the edge, and the edge's cost where it does not
abbrev pub step_cost : Problem → Step → ℕ
step_cost p s = if s.served then (edge_at p s.edge).service else (edge_at p s.edge).cost

-- the demand that a step serves
abbrev pub step_load : Problem → Step → ℕ
step_load p s = if s.served then (edge_at p s.edge).demand else 0

-- what a walk costs, over all its steps
abbrev pub walk_cost : Problem → List Step → ℕ
walk_cost p walk = sum_by (step_cost p) walk

-- the demand that a walk serves
abbrev pub walk_load : Problem → List Step → ℕ
walk_load p walk = sum_by (step_load p) walk

-- all steps of a plan, one walk after another
abbrev pub steps_of : List (List Step) → List Step
steps_of plan = flat_map (λ walk. walk) plan

-- what a plan costs, over all steps of all its walks
abbrev pub plan_cost : Problem → List (List Step) → ℕ
plan_cost p plan = sum_by (step_cost p) (steps_of plan)

-- the step serves the edge
abbrev pub serves : ℕ → Step → Bool
serves e s = s.served && (s.edge == e)

-- how often a plan serves an edge
abbrev pub services_of : ℕ → List (List Step) → ℕ
services_of e plan = count_by (serves e) (steps_of plan)

-- a walk that serves required edges alone, within the capacity
pub record IsLawfulWalk (p : Problem) (walk : List Step) : Type 0 where
  pub leads : IsWalk p walk
  pub serves_required : AllByRecursion (λ s. IsTrue s.served → IsRequired p s.edge) walk
  pub load : walk_load p walk ≤ p.capacity

-- a lawful plan: such walks, of any number, that serve each required edge exactly once in all
pub record IsLawful (p : Problem) (plan : List (List Step)) : Type 0 where
  pub walks : AllByRecursion (IsLawfulWalk p) plan
  pub once : (e : ℕ) → IsRequired p e → services_of e plan ≡ 1

-- exactly one end of the edge lies in the set of vertices
abbrev pub crosses : (ℕ → Bool) → Edge → Bool
crosses inside x = if inside x.u then not (inside x.v) else inside x.v

-- how often a plan crosses an edge without service
abbrev pub deadheads_on : ℕ → List (List Step) → ℕ
deadheads_on e plan = count_by (λ s. not s.served && (s.edge == e)) (steps_of plan)

-- how often a plan crosses the border of a set of vertices without service
abbrev pub deadheads_over : Problem → (ℕ → Bool) → List (List Step) → ℕ
deadheads_over p inside plan = count_by (λ s. not s.served && crosses inside (edge_at p s.edge)) (steps_of plan)
