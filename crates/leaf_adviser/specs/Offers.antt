-- What is said of a price set that is offered: nothing of its value, nor that it fits.
use Rattle.std.specs.Prelude.{◌≡◌, ℕ, List, length}
use Rattle.std.specs.List.{All}
use Rattle.carp_base.specs.Problem.{Problem}
use Rattle.branch_rules.specs.Bonds.{GroupWeight, IsGroup}
use Rattle.branch_rules.specs.Limits.{IsShoreOf}
use Rattle.branch_rules.specs.Prices.{Prices}

-- a price for each required edge, and weights on shores of the pool that belong to the instance
pub record IsPriced (p : Problem) (pool : List (List ℕ)) (set : Prices) : Type 0 where
  pub one_each : length set.services ≡ p.required
  pub shores : All (λ w. IsShoreOf p pool w.shore) set.weights

-- the same, and weights on groups of required edges
pub record IsOffer (p : Problem) (pool : List (List ℕ)) (set : Prices) : Type 0 where
  pub priced : IsPriced p pool set
  pub groups : All (λ (w : GroupWeight). IsGroup p w.edges) set.groups
