-- Tours as lists of tasks, and plans by their tours (Golden and Wong 1981).
use Rattle.std.specs.Prelude.{◌≡◌, ℕ, ◌+◌, ◌≤◌, ◌==◌, ◌⊎◌, List, [], ◌∷◌, map, sum_by, count_by}
use Rattle.std.specs.List.{flat_map, AllByRecursion}
use Rattle.carp_base.specs.declared.edge.Task.{Task}
use Rattle.carp_base.specs.Problem.{Problem, IsRequired, edge_at, head_of}
use Rattle.plan_model.specs.declared.step.Step.{Step}
use Rattle.deadhead_paths.specs.Tidy.{GoByLeastPaths, served_steps}
use Rattle.deadhead_paths.specs.Tours.{LeastDeadhead, tasks_of}

-- a vertex where a tour can stand: the depot, or the end of a task on a required edge
abbrev pub IsStand : Problem → ℕ → Type 0
IsStand p v = (v ≡ p.depot) ⊎ ((t : Task) × IsRequired p t.edge × (v ≡ head_of (edge_at p t.edge) t.forward))

-- a walk that does these tasks in this order, joined by least paths from the depot and back
pub record JoinsTasks (p : Problem) (order : List Task) (walk : List Step) : Type 0 where
  pub tasks : tasks_of walk ≡ order
  pub paths : GoByLeastPaths p (served_steps walk) p.depot p.depot walk

-- each tour of a plan as its services in their order and direction
abbrev pub plan_tours : List (List Step) → List (List Task)
plan_tours plan = map tasks_of plan

-- the services of each walk of a plan are joined by least paths
abbrev pub PlanGoesByLeastPaths : Problem → List (List Step) → Type 0
PlanGoesByLeastPaths p plan = AllByRecursion (λ walk. GoByLeastPaths p (served_steps walk) p.depot p.depot walk) plan

-- the tasks of all tours, one tour after another
abbrev pub all_tasks : List (List Task) → List Task
all_tasks tours = flat_map (λ tour. tour) tours

-- the demand of the tasks of a tour
abbrev pub tour_load : Problem → List Task → ℕ
tour_load p tour = sum_by (λ t. (edge_at p t.edge).demand) tour

-- tasks on required edges, and on each of them exactly one
pub record AreServedOnce (p : Problem) (tasks : List Task) : Type 0 where
  pub required : AllByRecursion (λ t. IsRequired p t.edge) tasks
  pub once : (e : ℕ) → IsRequired p e → count_by (λ t. t.edge == e) tasks ≡ 1

-- tours that together serve each required edge once, each within the capacity
pub record AreLawfulTours (p : Problem) (tours : List (List Task)) : Type 0 where
  pub served : AreServedOnce p (all_tasks tours)
  pub loads : AllByRecursion (λ tour. tour_load p tour ≤ p.capacity) tours

-- n is the sum of the least deadheads of the tours, from the depot and back
abbrev pub ToursDeadhead : Problem → (ℕ → ℕ) → List (List Task) → ℕ → Type 0
ToursDeadhead p q [] n = n ≡ 0
ToursDeadhead p q (tour ∷ tours) n = (k m : ℕ) × LeastDeadhead p q p.depot tour p.depot k × ToursDeadhead p q tours m × (n ≡ k + m)
