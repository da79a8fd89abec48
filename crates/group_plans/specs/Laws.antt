-- What packings say of plans.
use Rattle.std.specs.Prelude.{ℕ, List}
use Rattle.carp_base.specs.Problem.{Problem, IsValid}
use Rattle.carp_base.specs.Packings.{IsPacking}
use Rattle.plan_model.specs.declared.step.Step.{Step}
use Rattle.plan_model.specs.Plans.{IsLawful}
use Rattle.group_plans.specs.Groups.{serving_walks}

-- there is a packing with as many groups as walks of a lawful plan serve
abbrev pub PlansArePackings : Type 0
PlansArePackings = (p : Problem) (plan : List (List Step)) → IsValid p → IsLawful p plan → (groups : List ℕ) × IsPacking p groups (serving_walks plan)
