-- What the helper that settles plans finds.
use Rattle.std.specs.Prelude.{◌≢◌, ◌≤◌, List, []}
use Rattle.std.specs.List.{AllByRecursion}
use Rattle.carp_base.specs.Problem.{Problem}
use Rattle.plan_model.specs.declared.step.Step.{Step}
use Rattle.plan_model.specs.Plans.{IsLawful, plan_cost}
use Rattle.task_tours.specs.Tours.{PlanGoesByLeastPaths, plan_tours}
use Rattle.local_moves.specs.Changes.{IsSettledPlan}

-- a lawful plan that costs no more than another
pub record IsLawfulNoDearer (p : Problem) (best plan : List (List Step)) : Type 0 where
  pub lawful : IsLawful p plan
  pub cost : plan_cost p plan ≤ plan_cost p best

-- a settled plan that costs no more than another, and whose tours each serve and go by least paths
pub record IsSettledFrom (p : Problem) (best plan : List (List Step)) : Type 0 where
  pub cost : plan_cost p plan ≤ plan_cost p best
  pub settled : IsSettledPlan p plan
  pub paths : PlanGoesByLeastPaths p plan
  pub each_serves : AllByRecursion (λ tour. tour ≢ []) (plan_tours plan)
