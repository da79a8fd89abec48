-- What is kept from leaf to leaf: a table and what it is filled for, and distances.
use Rattle.std.specs.Prelude.{◌≡◌, ℕ, ◌≤◌, Option, Some, None, IfSome, List, ℤ, pos, ◌<ℤ◌, ◌≤ℤ◌}
use Rattle.carp_base.specs.Problem.{Problem}
use Rattle.carp_base.specs.Allowed.{Relation, allows}
use Rattle.decision_chains.specs.declared.decision.Decision.{Decision}
use Rattle.decision_chains.specs.Exclusions.{PermitsUnexcluded}
use Rattle.deadhead_paths.specs.Prices.{Priced, costs_of}
use Rattle.route_pricing.specs.Pricing.{AreSurcharges}
use Rattle.route_pricing.specs.Tables.{IsRoom, IsFilled}
use Rattle.route_pricing.specs.declared.table.Table.{Table}
use Rattle.route_pricing.specs.Values.{Pricing}
use Rattle.branch_rules.specs.Bonds.{IsSurchargeTable}
use Rattle.branch_rules.specs.Prices.{Prices, crossing_prices}
use Rattle.branch_rules.specs.Trees.{Support, set_at}
use Rattle.branch_rules.specs.declared.node.Node.{Node}
use Rattle.cert_checker.specs.declared.leaves.Leaves.{Leaves}
use Rattle.cert_checker.specs.declared.leaves.Filling.{Filling}
use Rattle.cert_checker.specs.declared.leaves.SetPrices.{SetPrices}
use Rattle.cert_checker.specs.declared.reason.Reason.{Reason}
use Rattle.cert_checker.specs.declared.reason.Reason.TheVariants.{LeafLow}
use Rattle.cert_checker.specs.Nodes.{NodeFails, NodeStands, IsLeastTour, ToursPay}

-- the prices are those of the set of this number
pub record ArePricesOf (s : Support) (set : ℕ) (x : SetPrices) : Type 0 where
  pub services : x.services.items ≡ (set_at s set).services
  pub problem : x.dist.problem ≡ s.problem
  pub prices : x.dist.prices ≡ crossing_prices s.problem s.pool (set_at s set)
  pub charged : IsSurchargeTable s.problem.required (set_at s set).groups x.surcharges.items
  pub fit : AreSurcharges s.problem.required x.surcharges.items

-- distances by cost
pub record AreByCost (p : Problem) (dist : Priced) : Type 0 where
  pub problem : dist.problem ≡ p
  pub prices : dist.prices ≡ costs_of p

-- what tours are priced by at a leaf, if these pairs may be neighbours and have these surcharges
abbrev pub pricing_of : Support → ℕ → Relation → List ℤ → Pricing
pricing_of s set relation surcharges = record {
  problem = s.problem;
  prices = crossing_prices s.problem s.pool (set_at s set);
  unit = (set_at s set).unit;
  services = (set_at s set).services;
  relation = relation;
  surcharges = surcharges;
}

-- the table is filled for a set, with the surcharges of its groups, and a relation
pub record IsTableFor (s : Support) (table : Table) (x : Filling) : Type 0 where
  pub on : x.allowed.size ≡ s.problem.required
  pub surcharges : List ℤ
  pub charged : IsSurchargeTable s.problem.required (set_at s x.set).groups surcharges
  pub filled : IsFilled (pricing_of s x.set x.allowed surcharges) table

-- what is kept is right
pub record AreLeaves (s : Support) (x : Leaves) : Type 0 where
  pub net : x.net ≡ s.problem
  pub room : IsRoom s.problem x.table
  pub costs : IfSome x.costs (AreByCost s.problem)
  pub priced : IfSome x.priced (λ priced. ArePricesOf s priced.set priced)
  pub filled : IfSome x.filled (IsTableFor s x.table)

-- two relations permit the same pairs of the first m edges
abbrev pub PermitSame : ℕ → Relation → Relation → Type 0
PermitSame m one other = (a b : ℕ) → 1 ≤ a → a ≤ m → 1 ≤ b → b ≤ m → allows one a b ≡ allows other a b

-- the table is filled for a set, and for exactly the pairs that the branch does not exclude
pub record IsFilledFor (s : Support) (branch : List Decision) (set : ℕ) (x : Leaves) : Type 0 where
  pub relation : Relation
  pub permits : PermitsUnexcluded s.problem branch relation
  pub surcharges : List ℤ
  pub charged : IsSurchargeTable s.problem.required (set_at s set).groups surcharges
  pub filled : IsFilled (pricing_of s set relation surcharges) x.table

-- the table is filled for a set, and for a relation that permits the same pairs as another
pub record IsFilledLike (s : Support) (set : ℕ) (other : Relation) (x : Leaves) : Type 0 where
  pub relation : Relation
  pub on : relation.size ≡ s.problem.required
  pub same : PermitSame s.problem.required relation other
  pub surcharges : List ℤ
  pub charged : IsSurchargeTable s.problem.required (set_at s set).groups surcharges
  pub filled : IsFilled (pricing_of s set relation surcharges) x.table

-- what is found of the tours of a price leaf: that each pays for its services, or the least value, which is negative
abbrev pub TourSays : Support → List Decision → Prices → Option ℤ → Type 0
TourSays s branch set None = ToursPay s branch set
TourSays s branch set (Some value) = IsLeastTour s branch set value × (value <ℤ pos 0)

-- the number is found if it is there and negative
abbrev pub IsIfNegative : Option ℤ → Option ℤ → Type 0
IsIfNegative number None = IfSome number (λ value. pos 0 ≤ℤ value)
IsIfNegative number (Some found) = (number ≡ Some found) × (found <ℤ pos 0)

-- what is found of the value of a price leaf: that it is above the limit, or that it is not
abbrev pub ValueSays : (at : ℕ) (value limit : ℤ) → Option Reason → Type 0
ValueSays at value limit None = limit <ℤ value
ValueSays at value limit (Some reason) = (reason ≡ LeafLow at value limit) × (value ≤ℤ limit)

-- what is found of a node: that it is as it should be, or the reason why it is not
abbrev pub NodeSays : Support → (bound at : ℕ) → List Decision → Node → Option Reason → Type 0
NodeSays s bound at branch node None = NodeStands s bound branch node
NodeSays s bound at branch node (Some reason) = NodeFails s bound at branch node reason
