-- The plan that helpers are asked from first. No public contract speaks of this.
use Rattle.std.specs.Prelude.{List}
use Rattle.carp_base.specs.Problem.{Problem}
use Rattle.deadhead_paths.specs.Singles.{AreLeastTours}
use Rattle.deadhead_paths.specs.Tidy.{IsTidied}
use Rattle.plan_model.specs.Plans.{IsLawful}
use Rattle.plan_model.specs.declared.step.Step.{Step}

-- the plan is one tour for each required edge by least paths, tidied
pub record IsFirstPlan (p : Problem) (plan : List (List Step)) : Type 0 where
  pub singles : List (List Step)
  pub tours : AreLeastTours p singles
  pub lawful : IsLawful p singles
  pub tidied : IsTidied p singles plan
