-- The floors of the bound, and when a price set reaches one, or shows just one: its value divided by its denominator is at least the floor, or just
-- the floor.
use Rattle.std.specs.Prelude.{◌≡◌, ◌≢◌, ℕ, ◌+◌, ◌*◌, ◌<◌, ◌≤◌, Bool, List, [], length, map, sum_by, ℤ, pos, ◌*ℤ◌, ◌≤ℤ◌}
use Rattle.carp_base.specs.declared.edge.Task.{Task}
use Rattle.carp_base.specs.Problem.{Problem, edge_at, required_cost, total_demand}
use Rattle.cut_pool.specs.declared.shore.Weighted.{Weighted}
use Rattle.deadhead_paths.specs.Prices.{price_of, costs_of}
use Rattle.deadhead_paths.specs.Tours.{IsTaskTour, LeastDeadhead}
use Rattle.capacity_cuts.specs.Levels.{AreShells, AreLevelSets, needs_below, weighted_needs}
use Rattle.matching_duals.specs.Joins.{IsLeastJoin, IsJoinBound}
use Rattle.decision_chains.specs.declared.decision.Decision.{Decision}
use Rattle.branch_rules.specs.Prices.{Prices, value_of, weight_at}
use Rattle.branch_rules.specs.Decisions.{rules_of}
use Rattle.branch_rules.specs.Laws.{FitsBranch}

-- the value of a price set without decisions
abbrev pub plain_value : Problem → List (List ℕ) → Prices → ℤ
plain_value p pool set = value_of (rules_of p pool []) set

-- a price set fits whatever the decisions are, so without any too
abbrev pub FitsAlways : Problem → List (List ℕ) → Prices → Type 0
FitsAlways p pool set = (branch : List Decision) → FitsBranch p pool branch set

-- Shell is the service costs, and for each level the need of its level set; k is any number of levels that no distance passes
abbrev pub ReachesShell : Problem → List (List ℕ) → Prices → Type 0
ReachesShell p pool set =
    (level : ℕ → ℕ → Bool) (k : ℕ) → AreLevelSets p level → 1000000000 ≤ k →
    pos (set.unit * (required_cost p + needs_below p level k)) ≤ℤ plain_value p pool set

-- the set's value divided by its denominator is exactly Shell
abbrev pub ShowsShell : Problem → List (List ℕ) → Prices → Type 0
ShowsShell p pool set =
    (level : ℕ → ℕ → Bool) (k : ℕ) → AreLevelSets p level → 1000000000 ≤ k →
    plain_value p pool set ≡ pos (set.unit * (required_cost p + needs_below p level k))

-- a relaxed tour in which no edge follows itself
abbrev pub IsFreeTour : Problem → List Task → Type 0
IsFreeTour p tasks = IsTaskTour p (λ a b. a ≢ b) tasks

-- the deadhead of a tour by cost
abbrev pub HasDeadhead : Problem → List Task → ℕ → Type 0
HasDeadhead p tasks n = LeastDeadhead p (price_of (costs_of p)) p.depot tasks p.depot n

-- what a tour serves
abbrev pub tour_load : Problem → List Task → ℕ
tour_load p tasks = sum_by (λ t. (edge_at p t.edge).demand) tasks

-- some relaxed tour has this deadhead and this load, and the deadhead divided by the load is least
pub record IsLeastCostRatio (p : Problem) (deadhead load : ℕ) : Type 0 where
  pub tasks : List Task
  pub tour : IsFreeTour p tasks
  pub joined : HasDeadhead p tasks deadhead
  pub loaded : load ≡ tour_load p tasks
  pub least : (other : List Task) (n : ℕ) → IsFreeTour p other → HasDeadhead p other n → deadhead * tour_load p other ≤ n * load

-- Ratio is the service costs, and the total demand times the least ratio of a tour's deadhead and its load
abbrev pub ReachesRatio : Problem → List (List ℕ) → Prices → Type 0
ReachesRatio p pool set =
    (deadhead load : ℕ) → IsLeastCostRatio p deadhead load →
    pos (set.unit * (required_cost p * load + total_demand p * deadhead)) ≤ℤ (plain_value p pool set *ℤ pos load)

-- the set's value divided by its denominator is exactly Ratio; if no edge is required, there is no ratio, and the value is 0
pub record ShowsRatio (p : Problem) (pool : List (List ℕ)) (set : Prices) : Type 0 where
  pub ratio :
      (deadhead load : ℕ) → IsLeastCostRatio p deadhead load →
      (plain_value p pool set *ℤ pos load) ≡ pos (set.unit * (required_cost p * load + total_demand p * deadhead))
  pub nothing : p.required ≡ 0 → plain_value p pool set ≡ pos 0

-- Join is the service costs, and the least cost of deadheads that make every vertex even
abbrev pub ReachesJoin : Problem → List (List ℕ) → Prices → Type 0
ReachesJoin p pool set = (value : ℕ) → IsLeastJoin p value → pos (set.unit * (required_cost p + value)) ≤ℤ plain_value p pool set

-- the shores of a list, in its order
abbrev pub shores_of : List Weighted → List (List ℕ)
shores_of shores = map (λ s. s.shore) shores

-- the pool holds the level sets, nearest first, and nothing else
pub record HoldsShells (p : Problem) (pool : List (List ℕ)) : Type 0 where
  pub shells : List Weighted
  pub are : AreShells p shells
  pub held : pool ≡ shores_of shells

-- the pool holds shores that show the least join, and nothing else
pub record HoldsJoinShores (p : Problem) (pool : List (List ℕ)) : Type 0 where
  pub counts : List ℕ
  pub shores : List Weighted
  pub value : ℕ
  pub show : IsJoinBound p counts shores value
  pub held : pool ≡ shores_of shores

-- The pool holds shores that show the least join, and nothing else. The set's value divided by its denominator is the service costs and
-- half of the sum of the shores' needs, each times the halves of its shore. So it is Join if each shore needs one deadhead, and more than
-- Join if a shore needs more, as for the vehicles that its demand takes.
pub record ShowsJoinShores (p : Problem) (pool : List (List ℕ)) (set : Prices) : Type 0 where
  pub shores : HoldsJoinShores p pool
  pub needs : (pos 2 *ℤ plain_value p pool set) ≡ pos (set.unit * (2 * required_cost p + weighted_needs p shores.shores))

-- the set has one weight on each shore of the pool, in their order, and no others
pub record WeighsEach (pool : List (List ℕ)) (set : Prices) : Type 0 where
  pub one_each : length set.weights ≡ length pool
  pub numbers : (i : ℕ) → i < length pool → (weight_at set i).shore ≡ i + 1
