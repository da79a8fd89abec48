-- Relaxed tours: lists of tasks that are joined by deadheads of least price (Corberán and Laporte 2014, route relaxation).
use Rattle.std.specs.Prelude.{◌≡◌, ◌≢◌, ℕ, ◌+◌, ◌≤◌, List, [], ◌∷◌, ◌++◌, map, sum_by, if◌then◌else◌}
use Rattle.std.specs.List.{AllByRecursion}
use Rattle.carp_base.specs.declared.edge.Task.{Task}
use Rattle.carp_base.specs.Problem.{Problem, IsRequired, edge_at, tail_of, head_of}
use Rattle.plan_model.specs.declared.step.Step.{Step}
use Rattle.deadhead_paths.specs.Prices.{IsLeastPrice}
use Rattle.deadhead_paths.specs.Tidy.{served_steps}

-- b stands directly after a in the list
pub record IsFollowed (es : List ℕ) (a b : ℕ) : Type 0 where
  pub before : List ℕ
  pub after : List ℕ
  pub joined : es ≡ before ++ (a ∷ (b ∷ after))

-- tasks on required edges, repeats permitted, that fit a vehicle, and follow each other only where that is allowed
pub record IsTaskTour (p : Problem) (allowed : ℕ → ℕ → Type 0) (tasks : List Task) : Type 0 where
  pub some : tasks ≢ []
  pub required : AllByRecursion (λ t. IsRequired p t.edge) tasks
  pub load : sum_by (λ t. (edge_at p t.edge).demand) tasks ≤ p.capacity
  pub each_allowed : (a b : ℕ) → IsFollowed (map (λ t. t.edge) tasks) a b → allowed a b

-- n is the sum of the least prices from a to the first task, from each task to the next, and from the last one to b
abbrev pub LeastDeadhead : Problem → (ℕ → ℕ) → ℕ → List Task → ℕ → ℕ → Type 0
LeastDeadhead p q a [] b n = IsLeastPrice p q a b n
LeastDeadhead p q a (t ∷ ts) b n =
    (k m : ℕ) × IsLeastPrice p q a (tail_of (edge_at p t.edge) t.forward) k
    × LeastDeadhead p q (head_of (edge_at p t.edge) t.forward) ts b m × (n ≡ k + m)

-- a step as a task
abbrev pub task_of : Step → Task
task_of s = record { edge = s.edge; forward = s.forward }

-- the services of a walk as tasks, in their order and direction
abbrev pub tasks_of : List Step → List Task
tasks_of walk = map task_of (served_steps walk)

-- the sum of the prices of the steps of a walk that do not serve
abbrev pub dead_price : (ℕ → ℕ) → List Step → ℕ
dead_price q walk = sum_by (λ s. if s.served then 0 else q s.edge) walk
