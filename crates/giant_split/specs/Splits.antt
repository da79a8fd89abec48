-- Plans that are cut from one order of all tasks (Beasley 1983, route first and cluster second; Lacomme, Prins and
-- Ramdane-Cherif 2004, the split of a giant tour).
use Rattle.std.specs.Prelude.{◌≡◌, ◌≢◌, ◌≤◌, List, []}
use Rattle.std.specs.List.{AllByRecursion}
use Rattle.carp_base.specs.declared.edge.Task.{Task}
use Rattle.carp_base.specs.Problem.{Problem}
use Rattle.plan_model.specs.declared.step.Step.{Step}
use Rattle.plan_model.specs.Plans.{IsLawful, plan_cost}
use Rattle.task_tours.specs.Tours.{PlanGoesByLeastPaths, all_tasks, plan_tours}

-- no lawful plan whose tours, one after another, serve in this order and in these directions costs less
abbrev pub IsCheapestInOrder : Problem → List Task → List (List Step) → Type 0
IsCheapestInOrder p order plan = (other : List (List Step)) → IsLawful p other → all_tasks (plan_tours other) ≡ order → plan_cost p plan ≤ plan_cost p other

-- the order is cut into consecutive tours, each with a task, which are joined by least paths to the cheapest lawful plan
pub record IsSplit (p : Problem) (order : List Task) (plan : List (List Step)) : Type 0 where
  pub lawful : IsLawful p plan
  pub in_order : all_tasks (plan_tours plan) ≡ order
  pub each_serves : AllByRecursion (λ tour. tour ≢ []) (plan_tours plan)
  pub paths : PlanGoesByLeastPaths p plan
  pub cheapest : IsCheapestInOrder p order plan

-- a split of the order in which it serves itself
abbrev pub IsOwnSplit : Problem → List (List Step) → Type 0
IsOwnSplit p plan = IsSplit p (all_tasks (plan_tours plan)) plan
