-- What partial tours are priced by, and what a grid holds of it.
use Rattle.std.specs.Prelude.{◌≡◌, ℕ, zero, suc, ◌+◌, ◌-◌, ◌*◌, ◌^◌, ◌≤◌, true, false, List, length, ℤ, pos, ◌+ℤ◌, ◌-ℤ◌, ◌≤ℤ◌, neg_ℤ, slice_index, slice_index_or, ◌⊎◌, All}
use Rattle.carp_base.specs.Problem.{Problem, IsRequired, IsReached, edge_at}
use Rattle.carp_base.specs.Allowed.{Relation, allows}
use Rattle.deadhead_paths.specs.Prices.{IsLeastPrice, NoneLead, price_of}
use Rattle.route_pricing.specs.declared.grid.Grid.{Grid}
use Rattle.route_pricing.specs.Partial.{IsGrid, AreEnds, between, surcharge_at}
pub use Rattle.route_pricing.specs.Partial.{base, lift}

-- what tours are priced by: a price for each deadhead, a unit, a price for each service, the pairs that may be neighbours, and a
-- surcharge for each pair of required edges, in rows, or no surcharge at all
pub record Pricing : Type 0 where
  pub problem : Problem
  pub prices : List ℕ
  pub unit : ℕ
  pub services : List ℤ
  pub relation : Relation
  pub surcharges : List ℤ

-- the pair may be neighbours
abbrev pub IsAllowed : Pricing → ℕ → ℕ → Type 0
IsAllowed x a b = allows x.relation a b ≡ true

-- the price of serving the edge of a number from 1, where the prices stand in the order of the edges
abbrev pub service_price : List ℤ → ℕ → ℤ
service_price services zero = pos 0
service_price services (suc k) = slice_index_or services k (pos 0)

-- what serving an edge adds
abbrev pub service_adds : Pricing → ℕ → ℤ
service_adds x e = pos (x.unit * (edge_at x.problem e).service) -ℤ service_price x.services e

-- the surcharge of two required edges that are served one directly after the other; below 0 it is gained, and an empty list has none
abbrev pub surcharge_in : ℕ → List ℤ → ℕ → ℕ → ℤ
surcharge_in required surcharges e f = slice_index_or surcharges ((e - 1) * required + (f - 1)) (pos 0)

-- a surcharge is within 2^61 either way
pub record IsSurcharge (z : ℤ) : Type 0 where
  pub low : neg_ℤ (pos 2305843009213693952) ≤ℤ z
  pub high : z ≤ℤ pos 2305843009213693952

-- surcharges for so many required edges, or none at all: the same in either order
pub record AreSurcharges (required : ℕ) (surcharges : List ℤ) : Type 0 where
  pub long : (length surcharges ≡ required * required) ⊎ (length surcharges ≡ 0)
  pub both_orders : (e f : ℕ) → 1 ≤ e → e ≤ required → 1 ≤ f → f ≤ required → surcharge_in required surcharges e f ≡ surcharge_in required surcharges f e
  pub small : All IsSurcharge surcharges

-- a price is within 10^15 either way
pub record IsServicePrice (z : ℤ) : Type 0 where
  pub low : neg_ℤ (pos 1000000000000000) ≤ℤ z
  pub high : z ≤ℤ pos 1000000000000000

-- the number is the least price where some steps lead there
pub record IsWay (p : Problem) (prices : List ℕ) (a b n : ℕ) : Type 0 where
  pub least : ¬ (NoneLead p a b) → IsLeastPrice p (price_of prices) a b n
  pub small : ¬ (NoneLead p a b) → n ≤ 2 ^ 73

-- the grid is that of the pricing: it holds its numbers
pub record IsGridOf (x : Pricing) (g : Grid) : Type 0 where
  pub grid : IsGrid g
  pub problem : x.problem ≡ g.inst
  pub dist : (a b : ℕ) → IsReached g.inst a → IsReached g.inst b → IsLeastPrice g.inst (price_of x.prices) a b (between g a b)
  pub adds : (e : ℕ) → IsRequired g.inst e → pos (slice_index g.adds.items (e - 1) + base) ≡ service_adds x e +ℤ pos (lift * (edge_at g.inst e).demand)
  pub may : (a b : ℕ) → IsRequired g.inst a → IsRequired g.inst b → slice_index_or g.may.items ((a - 1) * g.inst.required + (b - 1)) false ≡ allows x.relation a b
  pub surcharges : (e f : ℕ) → IsRequired g.inst e → IsRequired g.inst f → pos (surcharge_at g e f) ≡ surcharge_in g.inst.required x.surcharges e f +ℤ pos base

-- the grid was made for the instance
pub record IsGridRoom (p : Problem) (g : Grid) : Type 0 where
  pub inst : g.inst ≡ p
  pub net : g.net ≡ p
  pub may_long : length g.may.items ≡ p.required * p.required
  pub dist_long : length g.dist.items ≡ (p.vertices + 1) * (p.vertices + 1)
  pub ends : AreEnds p g.ends.items
  pub lengths_long : length g.lengths.items ≡ length p.edges
  pub adds_long : length g.adds.items ≡ p.required
  pub charges_long : length g.charges.items ≡ p.required
  pub raised_long : length g.raised.items ≡ p.required * p.required
