-- What a price set is proposed for.
use Rattle.std.specs.Prelude.{◌≡◌}
use Rattle.carp_base.specs.Problem.{IsValid}
use Rattle.price_points.specs.declared.problem.PricingProblem.{PricingProblem}

-- the instance is valid, and the network and the pairs are of it
pub record IsPricingProblem (problem : PricingProblem) : Type 0 where
  pub valid : IsValid problem.inst.now
  pub net : problem.net.now ≡ problem.inst.now
  pub allowed : problem.allowed.now.size ≡ problem.inst.now.required
