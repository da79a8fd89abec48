-- Which price set is made for each of the floors.
use Rattle.std.specs.Prelude.{◌≡◌, ℕ, ◌+◌, ◌*◌, ◌⊎◌, List, [], length, map, pos}
use Rattle.carp_base.specs.Problem.{Problem, IsRequired, edge_at}
use Rattle.cut_pool.specs.declared.shore.Weighted.{Weighted}
use Rattle.capacity_cuts.specs.Levels.{AreShells}
use Rattle.matching_duals.specs.Joins.{IsJoinBound}
use Rattle.branch_rules.specs.Prices.{Prices, price_in}
use Rattle.dual_master.specs.Floors.{IsLeastCostRatio, shores_of}
use Rattle.dual_master.specs.Laws.{ServesAtCost}

-- the set has this denominator, services at cost and the weights of just the shores of the pool, in their order
pub record WeighsShores (p : Problem) (unit : ℕ) (pool : List (List ℕ)) (shores : List Weighted) (set : Prices) : Type 0 where
  pub denominator : set.unit ≡ unit
  pub services : ServesAtCost p set
  pub held : pool ≡ shores_of shores
  pub weights : map (λ w. w.weight) set.weights ≡ map (λ s. s.weight) shores

-- the denominator is 1, services are at cost, and the weight on each level set is its number of levels, nearest first
pub record IsShellSet (p : Problem) (pool : List (List ℕ)) (set : Prices) : Type 0 where
  pub shells : List Weighted
  pub are : AreShells p shells
  pub weighs : WeighsShores p 1 pool shells set

-- the denominator is 2, services are at cost, and the weights are the halves of shores that show the least join
pub record IsJoinSet (p : Problem) (pool : List (List ℕ)) (set : Prices) : Type 0 where
  pub counts : List ℕ
  pub shores : List Weighted
  pub value : ℕ
  pub show : IsJoinBound p counts shores value
  pub weighs : WeighsShores p 2 pool shores set

-- the denominator is the load of a least ratio, and each price that load times the service cost and the deadhead times the demand
pub record SharesLeastRatio (p : Problem) (set : Prices) : Type 0 where
  pub deadhead : ℕ
  pub load : ℕ
  pub least : IsLeastCostRatio p deadhead load
  pub denominator : set.unit ≡ load
  pub one_each : length set.services ≡ p.required
  pub prices : (e : ℕ) → IsRequired p e → price_in set e ≡ pos (load * (edge_at p e).service + deadhead * (edge_at p e).demand)
  pub no_weights : set.weights ≡ []

-- the set without prices and weights, with the denominator 1
abbrev pub empty_set : Prices
empty_set = record { unit = 1; services = []; weights = []; groups = [] }

-- the set shares a least ratio, or it is the empty one where no edge is required
abbrev pub IsRatioSet : Problem → Prices → Type 0
IsRatioSet p set = ((p.required ≡ 0) × (set ≡ empty_set)) ⊎ SharesLeastRatio p set
