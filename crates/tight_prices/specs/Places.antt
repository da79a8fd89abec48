-- One number of a price set: the price of an edge, or the weight on a shore. No public contract speaks of this.
use Rattle.std.specs.Prelude.{◌≡◌, ℕ, ◌+◌, ◌<◌, ◌≤◌, ℤ, pos, ◌+ℤ◌, ◌≤ℤ◌, List, length, slice_index_or, ◌⊎◌}
use Rattle.carp_base.specs.Problem.{Problem, IsRequired}
use Rattle.carp_base.specs.declared.edge.Edge.{Edge}
use Rattle.cut_pool.specs.Pools.{IsShoreNumber}
use Rattle.decision_chains.specs.declared.decision.Decision.{Decision}
use Rattle.branch_rules.specs.Decisions.{rules_of}
use Rattle.branch_rules.specs.Laws.{FitsBranch}
use Rattle.branch_rules.specs.Limits.{IsShoreOf}
use Rattle.branch_rules.specs.Prices.{Prices, deadhead_price, no_weight, price_in, value_of}
use Rattle.branch_rules.specs.declared.weight.Weight.{Weight}
use Rattle.tight_prices.specs.Tight.{weight_on, with_price, with_weight}
use Rattle.tight_prices.specs.declared.place.Place.{Place}
use Rattle.tight_prices.specs.declared.place.Place.TheVariants as places

-- the number at a place
abbrev pub number_at : Prices → Place → ℤ
number_at set (places.Edge e) = price_in set e
number_at set (places.Shore s) = weight_on set.weights s

-- the set with the number at a place greater by d
abbrev pub raised : Prices → Place → ℕ → Prices
raised set (places.Edge e) d = with_price set e d
raised set (places.Shore s) d = with_weight set s d

-- a required edge, or a shore of the pool that belongs to the instance
abbrev pub IsPlaceIn : Problem → List (List ℕ) → Place → Type 0
IsPlaceIn p pool (places.Edge e) = IsRequired p e
IsPlaceIn p pool (places.Shore s) = IsShoreOf p pool s

-- an edge with a price, or any shore
abbrev pub IsPlaceOn : Prices → Place → Type 0
IsPlaceOn set (places.Edge e) = (1 ≤ e) × (e ≤ length set.services)
IsPlaceOn set (places.Shore s) = Unit {0}

-- the place is the weight on this shore
abbrev pub IsOnShore : Place → ℕ → Type 0
IsOnShore (places.Edge e) shore = ⊥
IsOnShore (places.Shore s) shore = s ≡ shore

-- any edge, or a shore of the pool
abbrev pub IsNumbered : List (List ℕ) → Place → Type 0
IsNumbered pool (places.Edge e) = Unit {0}
IsNumbered pool (places.Shore s) = IsShoreNumber pool s

-- the number can be raised by so much at most: then it is 10^15, or by one more the set does not fit
abbrev pub IsBlocked : Problem → List (List ℕ) → List Decision → Prices → Place → ℕ → Type 0
IsBlocked p pool branch set place most =
    ((number_at set place +ℤ pos most) ≡ pos 1000000000000000) ⊎ ¬ (FitsBranch p pool branch (raised set place (most + 1)))

-- no number of the first set is above that of the second, so no deadhead price is below, and the value is no greater
pub record Rises (p : Problem) (pool : List (List ℕ)) (branch : List Decision) (set other : Prices) : Type 0 where
  pub unit : set.unit ≡ other.unit
  pub services : length set.services ≡ length other.services
  pub prices : (e : ℕ) → price_in set e ≤ℤ price_in other e
  pub weights : (shore : ℕ) → weight_on set.weights shore ≤ℤ weight_on other.weights shore
  pub deadheads : (x : Edge) → deadhead_price pool other x ≤ℤ deadhead_price pool set x
  pub groups : set.groups ≡ other.groups
  pub value : value_of (rules_of p pool branch) set ≤ℤ value_of (rules_of p pool branch) other

-- where weights on shores not below this one begin
pub record IsPlaceOf (weights : List Weight) (shore place : ℕ) : Type 0 where
  pub within : place ≤ length weights
  pub before : (k : ℕ) → k < place → (slice_index_or weights k no_weight).shore < shore
  pub here : place < length weights → shore ≤ (slice_index_or weights place no_weight).shore

-- where weights on shores above this one begin
abbrev pub IsRestOf : List Weight → ℕ → ℕ → ℕ → Type 0
IsRestOf weights shore place rest =
    ((place < length weights) × ((slice_index_or weights place no_weight).shore ≡ shore) × (rest ≡ place + 1))
    ⊎ ((place < length weights → shore < (slice_index_or weights place no_weight).shore) × (rest ≡ place))
