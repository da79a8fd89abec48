-- Tasks on required edges, prices of required edges, and tables that were filled for an instance.
use Rattle.std.specs.Prelude.{◌≡◌, ℤ, List, length}
use Rattle.std.specs.List.{All}
use Rattle.carp_base.specs.Problem.{Problem, IsRequired}
use Rattle.carp_base.specs.declared.edge.Task.{Task}
use Rattle.route_pricing.specs.Pricing.{Pricing, IsServicePrice}
use Rattle.route_pricing.specs.Tables.{IsFilled}
use Rattle.route_pricing.specs.declared.table.Table.{Table}

-- the table was filled for the instance, whatever the prices
pub record IsFilledOn (p : Problem) (table : Table) : Type 0 where
  pub pricing : Pricing
  pub on : pricing.problem ≡ p
  pub filled : IsFilled pricing table

-- tasks are on required edges
abbrev pub AreServices : Problem → List Task → Type 0
AreServices p tasks = All (λ t. IsRequired p t.edge) tasks

-- a price within the limits for each required edge
pub record AreServicePrices (p : Problem) (prices : List ℤ) : Type 0 where
  pub one_each : length prices ≡ p.required
  pub within : All IsServicePrice prices
