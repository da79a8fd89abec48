-- Parts of a tour that is being cut, and a plan that is carried over walk by walk. No public contract speaks of this.
use Rattle.std.specs.Prelude.{◌≡◌, ℕ, ◌+◌, ◌<◌, ◌≤◌, true, List, ◌∷◌, ◌++◌, length, take, drop, slice_index_or, slice_range}
use Rattle.carp_base.specs.declared.edge.Task.{Task}
use Rattle.carp_base.specs.Problem.{Problem}
use Rattle.plan_model.specs.declared.step.Step.{Step}
use Rattle.task_tours.specs.Tours.{PlanGoesByLeastPaths, all_tasks, plan_tours, tour_load}
use Rattle.cert_transfer.specs.Cutting.{cut_from, cut_tour, cut_tours}

abbrev pub no_task : Task
no_task = record { edge = 0; forward = true }

-- the task at a place from 0
abbrev pub task_at : List Task → ℕ → Task
task_at tasks i = slice_index_or tasks i no_task

-- the tasks from one place to another are the first of the tours into which the rest is cut
pub record IsPart (p : Problem) (tasks : List Task) (start end : ℕ) : Type 0 where
  pub later : start < end
  pub within : end ≤ length tasks
  pub cut : cut_tour p (drop start tasks) ≡ slice_range tasks start end ∷ cut_tour p (drop end tasks)

-- they fit a vehicle, and no tour was cut between them
pub record IsPartSoFar (p : Problem) (tasks : List Task) (start end load : ℕ) : Type 0 where
  pub later : start < end
  pub within : end ≤ length tasks
  pub load_is : load ≡ tour_load p (slice_range tasks start end)
  pub fits : load ≤ p.capacity
  pub cut : cut_tour p (drop start tasks) ≡ cut_from p (slice_range tasks start end) (drop end tasks)

-- the tours of a plan, with those into which the rest is cut, are those of the old plan and those into which all is cut
pub record IsCutUpTo (p : Problem) (old : List (List Step)) (tasks : List Task) (start : ℕ) (plan : List (List Step)) : Type 0 where
  pub within : start ≤ length tasks
  pub few : length plan ≤ length old + start
  pub tours : plan_tours plan ++ cut_tour p (drop start tasks) ≡ plan_tours old ++ cut_tour p tasks
  pub paths : PlanGoesByLeastPaths p old → PlanGoesByLeastPaths p plan

-- the first walks of a plan are carried over
pub record IsCarriedUpTo (p : Problem) (old : List (List Step)) (place : ℕ) (plan : List (List Step)) : Type 0 where
  pub tours : plan_tours plan ≡ cut_tours p (plan_tours (take place old))
  pub paths : PlanGoesByLeastPaths p plan
  pub few : length plan ≤ length (all_tasks (plan_tours (take place old)))
