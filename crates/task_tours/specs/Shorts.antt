-- Short plans, and plans that a certificate can hold.
use Rattle.std.specs.Prelude.{◌≤◌, List, length}
use Rattle.carp_base.specs.Problem.{Problem}
use Rattle.plan_model.specs.Plans.{IsLawful, steps_of}
use Rattle.plan_model.specs.declared.step.Step.{Step}

-- a lawful plan of no more tours than there are required edges, and of at most 2,000,000 steps
pub record IsShortPlan (p : Problem) (plan : List (List Step)) : Type 0 where
  pub lawful : IsLawful p plan
  pub few_tours : length plan ≤ p.required
  pub few_steps : length (steps_of plan) ≤ 2000000

-- a lawful plan of at most 100,000 tours and 2,000,000 steps, as many as a certificate can hold
pub record IsAllowedPlan (p : Problem) (plan : List (List Step)) : Type 0 where
  pub lawful : IsLawful p plan
  pub few_tours : length plan ≤ 100000
  pub few_steps : length (steps_of plan) ≤ 2000000
