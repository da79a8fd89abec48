-- What a helper offers.
use Rattle.std.specs.Prelude.{List, Option, None, Some}
use Rattle.carp_base.specs.Problem.{Problem}
use Rattle.plan_model.specs.declared.step.Step.{Step}
use Rattle.plan_model.specs.Plans.{IsLawful}

-- a plan is offered, which is lawful, and of which a fact holds
abbrev pub OffersFound : Problem → (List (List Step) → Type 0) → Option (List (List Step)) → Type 0
OffersFound p holds None = ⊥
OffersFound p holds (Some plan) = IsLawful p plan × holds plan
