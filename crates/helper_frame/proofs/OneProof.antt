-- That a plan is lawful has one proof at most.
use Rattle.std.proofs.Common.{ℕ, List, [], ◌∷◌}
use Rattle.std.proofs.Props.{props}
use Rattle.carp_base.specs.Problem.{Problem, edge_at, head_of}
use Rattle.plan_model.specs.declared.step.Step.{Step}
use Rattle.plan_model.specs.Plans.{Leads, IsLawful}

leads_prop : (p : Problem) (a b : ℕ) (steps : List Step) → IsProp (Leads p a steps b)
leads_prop p a b [] = hlevel props
leads_prop p a b (s ∷ steps) = let rest = leads_prop p (head_of (edge_at p s.edge) s.forward) b steps in hlevel (props, rest)

pub lawful_prop : (p : Problem) (plan : List (List Step)) → IsProp (IsLawful p plan)
lawful_prop p plan = hlevel (props, leads_prop)
