-- Laws over plans.
use Rattle.std.specs.Prelude.{◌≤◌, List, length}
use Rattle.carp_base.specs.Problem.{Problem, IsValid}
use Rattle.plan_model.specs.Plans.{IsLawful, plan_cost, steps_of}
use Rattle.plan_model.specs.declared.step.Step.{Step}
use Rattle.task_tours.specs.Shorts.{IsAllowedPlan, IsShortPlan}

-- a lawful plan of at most 2,000,000 steps costs at most 2 * 10^12
abbrev pub ShortPlansCostLittle : Type 0
ShortPlansCostLittle = (p : Problem) (plan : List (List Step)) → IsValid p → IsLawful p plan → length (steps_of plan) ≤ 2000000 → plan_cost p plan ≤ 2000000000000

-- of a valid instance, a short plan is within the limits of a certificate
abbrev pub ShortPlansAreAllowed : Type 0
ShortPlansAreAllowed = (p : Problem) (plan : List (List Step)) → IsValid p → IsShortPlan p plan → IsAllowedPlan p plan
