-- Price sets that fit because their weights pack, level sets, and sets that reach what others reach.
use Rattle.std.specs.Prelude.{◌≡◌, ℕ, ◌*◌, ◌≤◌, Bool, List, [], length, All, pos, ◌*ℤ◌, ◌≤ℤ◌}
use Rattle.carp_base.specs.Problem.{Problem, IsEdgeNumber, IsRequired, IsValid, edge_at}
use Rattle.capacity_cuts.specs.Levels.{AreLevelSets}
use Rattle.branch_rules.specs.Prices.{Prices, price_in, signed_sum, crossing_weight}
use Rattle.dual_master.specs.Floors.{FitsAlways, ReachesShell, ReachesRatio, ReachesJoin, plain_value}

-- the price of each required edge is its service cost, in parts of the denominator, and no group has a weight
pub record ServesAtCost (p : Problem) (set : Prices) : Type 0 where
  pub one_each : length set.services ≡ p.required
  pub at_cost : (e : ℕ) → IsRequired p e → price_in set e ≡ pos (set.unit * (edge_at p e).service)
  pub no_groups : set.groups ≡ []

-- no weight is negative, and over each edge the weights sum to at most its cost, in parts of the denominator
pub record WeightsPack (p : Problem) (pool : List (List ℕ)) (set : Prices) : Type 0 where
  pub none_negative : All (λ w. pos 0 ≤ℤ w.weight) set.weights
  pub packs : (e : ℕ) → IsEdgeNumber p e → signed_sum (crossing_weight pool (edge_at p e)) set.weights ≤ℤ pos (set.unit * (edge_at p e).cost)

-- services at cost and weights that pack fit, whatever the decisions are
abbrev pub PackingWeightsFit : Type 0
PackingWeightsFit = (p : Problem) (pool : List (List ℕ)) (set : Prices) → ServesAtCost p set → WeightsPack p pool set → FitsAlways p pool set

-- for each valid instance, there are level sets of all levels
abbrev pub LevelSetsAreThere : Type 0
LevelSetsAreThere = (p : Problem) → IsValid p → (level : ℕ → ℕ → Bool) × AreLevelSets p level

-- the value of the first set divided by its denominator is at most that of the second
abbrev pub IsNoBetter : Problem → List (List ℕ) → Prices → List (List ℕ) → Prices → Type 0
IsNoBetter p pool set other_pool other = (pos other.unit *ℤ plain_value p pool set) ≤ℤ (pos set.unit *ℤ plain_value p other_pool other)

-- each floor that the first set reaches the second one reaches too
pub record ReachesAsMuch (p : Problem) (pool : List (List ℕ)) (set : Prices) (other_pool : List (List ℕ)) (other : Prices) : Type 0 where
  pub shell : ReachesShell p pool set → ReachesShell p other_pool other
  pub ratio : ReachesRatio p pool set → ReachesRatio p other_pool other
  pub join : ReachesJoin p pool set → ReachesJoin p other_pool other

-- of two sets the one that is no worse reaches the floors of the other
abbrev pub BetterReachesAsMuch : Type 0
BetterReachesAsMuch =
    (p : Problem) (pool : List (List ℕ)) (set : Prices) (other_pool : List (List ℕ)) (other : Prices) →
    1 ≤ set.unit → IsNoBetter p pool set other_pool other → ReachesAsMuch p pool set other_pool other
