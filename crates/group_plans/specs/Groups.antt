-- Plans whose walks serve the groups of a packing, and the packing of a plan.
use Rattle.std.specs.Prelude.{◌≡◌, ℕ, zero, suc, ◌-◌, ◌==◌, true, List, [], ◌∷◌, ◌++◌, if◌then◌else◌, count_by, length, slice_index}
use Rattle.std.specs.List.{list_any}
use Rattle.carp_base.specs.declared.edge.Task.{Task}
use Rattle.carp_base.specs.Problem.{Problem, IsRequired}
use Rattle.carp_base.specs.Packings.{IsGroup, group_of}
use Rattle.plan_model.specs.declared.step.Step.{Step}
use Rattle.plan_model.specs.Plans.{serves, walk_at}
use Rattle.deadhead_paths.specs.Tours.{tasks_of}

-- one walk for each group, which serves each edge of the group once, and no other required edge
pub record ServesGroups (p : Problem) (groups : List ℕ) (count : ℕ) (plan : List (List Step)) : Type 0 where
  pub one_each : length plan ≡ count
  pub served : (g e : ℕ) → IsGroup count g → IsRequired p e → count_by (serves e) (walk_at plan (g - 1)) ≡ (if group_of groups e == g then 1 else 0)

-- the edge, forward, where the group that it lies in is this one
abbrev pub own_task : ℕ → ℕ → ℕ → List Task
own_task owner group edge = if owner == group then (record { edge = edge; forward = true }) ∷ [] else []

-- those of the edges from 1 to n that lie in the group
abbrev pub gathered : List ℕ → ℕ → ℕ → List Task
gathered groups group zero = []
gathered groups group (suc n) = gathered groups group n ++ own_task (slice_index groups n) group (suc n)

-- each walk serves the edges of its group in the order of their numbers, all of them forward, and nothing else
abbrev pub ServesInOrder : Problem → List ℕ → ℕ → List (List Step) → Type 0
ServesInOrder p groups count plan = (g : ℕ) → IsGroup count g → tasks_of (walk_at plan (g - 1)) ≡ gathered groups g p.required

-- how many walks of a plan serve
abbrev pub serving_walks : List (List Step) → ℕ
serving_walks plan = count_by (λ walk. list_any (λ s. s.served) walk) plan
