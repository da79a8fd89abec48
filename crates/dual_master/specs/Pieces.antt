-- Of what price sets are made. No public contract speaks of this.
use Rattle.std.specs.Prelude.{◌≡◌, ℕ, suc, ◌+◌, ◌*◌, ◌<◌, ◌≤◌, List, [], ◌∷◌, map, length, take, slice_index_or, nat_abs, ℤ, pos, All}
use Rattle.carp_base.specs.Problem.{Problem, IsRequired, edge_at, required_edges}
use Rattle.cut_pool.specs.declared.shore.Weighted.{Weighted}
use Rattle.cut_pool.specs.Shores.{Belongs}
use Rattle.branch_rules.specs.declared.weight.Weight.{Weight}
use Rattle.branch_rules.specs.Prices.{Prices}
use Rattle.dual_master.specs.Floors.{shores_of}

-- for each required edge, so much for its service cost and so much for its demand
abbrev pub prices_at : Problem → ℕ → ℕ → List ℤ
prices_at p unit share = map (λ x. pos (unit * x.service + share * x.demand)) (required_edges p)

-- none of these prices is above 10^15
abbrev pub ArePricesSmall : Problem → ℕ → ℕ → Type 0
ArePricesSmall p unit share = (e : ℕ) → IsRequired p e → unit * (edge_at p e).service + share * (edge_at p e).demand ≤ 1000000000000000

-- the weights of shores that are placed one after another, the first of them under a number
abbrev pub weights_from : ℕ → List Weighted → List Weight
weights_from number [] = []
weights_from number (s ∷ shores) = record { shore = number; weight = s.weight } ∷ weights_from (suc number) shores

-- the weight is a number from 1 to 10^15
pub record IsPositive (s : Weighted) : Type 0 where
  pub natural : s.weight ≡ pos (nat_abs s.weight)
  pub some : 1 ≤ nat_abs s.weight
  pub small : nat_abs s.weight ≤ 1000000000000000

-- no two shores are the same
abbrev pub AreApart : List Weighted → Type 0
AreApart shores =
    (i j : ℕ) (d : Weighted) → i < length shores → j < length shores → (slice_index_or shores i d).shore ≡ (slice_index_or shores j d).shore → i ≡ j

-- shores that can be placed in an empty pool, with weights that a price set can have
pub record ArePlaceable (p : Problem) (shores : List Weighted) : Type 0 where
  pub few : length shores ≤ 2000
  pub apart : AreApart shores
  pub positive : All IsPositive shores
  pub belong : All (λ s. Belongs p s.shore) shores

-- the pool holds the first of the shores, and no others
pub record HoldsFirst (shores : List Weighted) (pool : List (List ℕ)) : Type 0 where
  pub count : ℕ
  pub held : pool ≡ shores_of (take count shores)

-- services at cost, and the shores with their weights under the numbers from 1 on
abbrev pub prices_of : Problem → ℕ → List Weighted → Prices
prices_of p unit shores = record { unit = unit; services = prices_at p unit 0; weights = weights_from 1 shores; groups = [] }

-- the prices by a ratio of deadhead and load, with no weights
abbrev pub ratio_set : Problem → ℕ → ℕ → Prices
ratio_set p deadhead load = record { unit = load; services = prices_at p load deadhead; weights = []; groups = [] }

-- a ratio by which all prices are within their limits
pub record IsRatioIn (p : Problem) (deadhead load : ℕ) : Type 0 where
  pub some : 1 ≤ load
  pub few : load ≤ 1000000
  pub small : deadhead ≤ 1000000000000000
  pub prices : ArePricesSmall p load deadhead
