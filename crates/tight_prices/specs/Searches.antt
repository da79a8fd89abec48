-- The search for the greatest raise of one number. No public contract speaks of this.
use Rattle.std.specs.Prelude.{◌≡◌, ℕ, ◌≤◌, true, pos, ◌+ℤ◌, ◌≤ℤ◌, List, length, IsTrue}
use Rattle.std.specs.List.{All}
use Rattle.carp_base.specs.Problem.{Problem, IsRequired, IsEdgeNumber, edge_at}
use Rattle.plan_model.specs.Plans.{crosses}
use Rattle.deadhead_paths.specs.Prices.{price_of}
use Rattle.cut_pool.specs.Shores.{is_in}
use Rattle.branch_rules.specs.Laws.{FitsBranch}
use Rattle.branch_rules.specs.Limits.{IsPriceSet, IsShoreOf}
use Rattle.branch_rules.specs.Prices.{Prices, crossing_prices}
use Rattle.route_pricing.specs.declared.table.Table.{Table}
use Rattle.tight_prices.specs.Fillings.{IsFilledFor}
use Rattle.tight_prices.specs.Probes.{Ground}
use Rattle.tight_prices.specs.Places.{IsBlocked, number_at}
use Rattle.tight_prices.specs.Tight.{IsNeededSingle, IsWeightTight, weight_on}
use Rattle.tight_prices.specs.declared.place.Place.{Place}
use Rattle.tight_prices.specs.declared.place.Place.TheVariants as places
use Rattle.tight_prices.specs.declared.search.Search.{Search}
use Rattle.tight_prices.specs.declared.passes.PricedSet.{PricedSet}

-- a set within its limits that fits, with its weights on shores of the pool that belong to the instance
pub record IsFitting (g : Ground) (set : Prices) : Type 0 where
  pub fits : FitsBranch g.problem g.pool g.branch set
  pub shores : All (λ w. IsShoreOf g.problem g.pool w.shore) set.weights
  pub fine : IsPriceSet set

-- so much at most can the number be raised, within 10^15
pub record IsMost (g : Ground) (set : Prices) (place : Place) (most : ℕ) : Type 0 where
  pub within : (number_at set place +ℤ pos most) ≤ℤ pos 1000000000000000
  pub blocked : IsBlocked g.problem g.pool g.branch set place most

-- the edge is one of those of the table
abbrev pub IsEdgeOf : Table → Place → Type 0
IsEdgeOf table (places.Edge e) = IsRequired table.grid.inst e
IsEdgeOf table (places.Shore s) = Unit {0}

-- for whatever set the table is filled, if the number can be raised by no more than the first, then by no more than the second
abbrev pub AreStillMost : Table → Place → ℕ → ℕ → Type 0
AreStillMost table place first second =
    (g : Ground) (set : Prices) → IsFilledFor g.problem g.pool g.branch set table → length set.services ≡ g.problem.required →
    IsMost g set place first → IsMost g set place second

-- the set that is held fits, and the number can be raised by so much more at most; where it is said, the table is filled for the set
pub record IsSearch (g : Ground) (place : Place) (table : Table) (x : Search) : Type 0 where
  pub fitting : IsFitting g x.set
  pub most : IsMost g x.set place x.most
  pub filled : IsTrue x.filled → IsFilledFor g.problem g.pool g.branch x.set table

-- an edge crosses the shore, and its price is at most this
pub record IsOver (p : Problem) (shore prices : List ℕ) (least : ℕ) : Type 0 where
  pub e : ℕ
  pub number : IsEdgeNumber p e
  pub crossed : crosses (is_in shore) (edge_at p e) ≡ true
  pub price : price_of prices e ≤ least

-- a set that fits, with its deadhead prices
pub record ArePriced (g : Ground) (x : PricedSet) : Type 0 where
  pub fitting : IsFitting g x.set
  pub prices : x.deadheads.items ≡ crossing_prices g.problem g.pool x.set

-- the shore is a needed single vertex among the first so many of the pool
abbrev pub IsKnownSingle : Ground → ℕ → ℕ → Type 0
IsKnownSingle g known shore = (shore ≤ known) × IsNeededSingle g.problem g.pool shore

-- the shore is this one, and a needed single vertex
abbrev pub IsThisSingle : Ground → ℕ → ℕ → Type 0
IsThisSingle g this shore = (this ≡ shore) × IsNeededSingle g.problem g.pool shore

-- the two sets have the same weight on each shore
abbrev pub HaveSameWeights : Prices → Prices → Type 0
HaveSameWeights set other = (shore : ℕ) → weight_on other.weights shore ≡ weight_on set.weights shore

-- the shore is none that counts, or its weight cannot be raised
abbrev pub IsShoreTight : Ground → Prices → ℕ → Type 0
IsShoreTight g set shore = IsNeededSingle g.problem g.pool shore → IsWeightTight g.problem g.pool g.branch set shore
