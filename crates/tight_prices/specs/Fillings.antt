-- What a table is filled for when a price set is tested under a branch.
use Rattle.std.specs.Prelude.{ℕ, ℤ, List}
use Rattle.carp_base.specs.Problem.{Problem}
use Rattle.carp_base.specs.Allowed.{Relation}
use Rattle.decision_chains.specs.declared.decision.Decision.{Decision}
use Rattle.decision_chains.specs.Exclusions.{PermitsUnexcluded}
use Rattle.route_pricing.specs.Tables.{IsFilled}
use Rattle.route_pricing.specs.declared.table.Table.{Table}
use Rattle.route_pricing.specs.Values.{Pricing}
use Rattle.branch_rules.specs.Bonds.{IsSurchargeTable}
use Rattle.branch_rules.specs.Prices.{Prices, crossing_prices}

-- what tours are priced by if these pairs may be neighbours and have these surcharges
abbrev pub pricing_of : Problem → List (List ℕ) → Prices → Relation → List ℤ → Pricing
pricing_of p pool set relation surcharges = record {
  problem = p;
  prices = crossing_prices p pool set;
  unit = set.unit;
  services = set.services;
  relation = relation;
  surcharges = surcharges;
}

-- the table is filled for the set, for just the pairs that the branch does not exclude, and with the surcharges of the set's groups
pub record IsFilledFor (p : Problem) (pool : List (List ℕ)) (branch : List Decision) (set : Prices) (table : Table) : Type 0 where
  pub relation : Relation
  pub permits : PermitsUnexcluded p branch relation
  pub surcharges : List ℤ
  pub charged : IsSurchargeTable p.required set.groups surcharges
  pub filled : IsFilled (pricing_of p pool set relation surcharges) table
