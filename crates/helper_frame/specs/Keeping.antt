-- What a finder finds that keeps a plan.
use Rattle.std.specs.Prelude.{List}
use Rattle.carp_base.specs.Problem.{Problem}
use Rattle.plan_model.specs.declared.step.Step.{Step}

-- the plan is found beside some best plan so far: there is a proof of that, and which one it is is not kept
abbrev pub IsFoundBesideSome : (Problem → List (List Step) → List (List Step) → Type 0) → Problem → List (List Step) → Type 0
IsFoundBesideSome finds p plan = ∥ ((best : List (List Step)) × finds p best plan) ∥₁
