-- The limits of price sets and of decisions, under which every sum fits 128 bits.
use Rattle.std.specs.Prelude.{◌≡◌, ◌≢◌, ℕ, ◌≤◌, ℤ, pos, neg_ℤ, ◌≤ℤ◌, ◌<ℤ◌, List, length, map, sum_by}
use Rattle.std.specs.List.{All}
use Rattle.std.specs.List.Sorted.{IsStrictlyIncreasing}
use Rattle.carp_base.specs.Problem.{Problem}
use Rattle.cut_pool.specs.Pools.{IsShoreNumber, shore_at}
use Rattle.cut_pool.specs.Shores.{Belongs}
use Rattle.decision_chains.specs.Pairs.{IsPairWithin}
use Rattle.branch_rules.specs.Bonds.{GroupWeight}
use Rattle.branch_rules.specs.Prices.{Prices}
use Rattle.branch_rules.specs.declared.weight.Weight.{Weight}
use Rattle.decision_chains.specs.declared.decision.Decision.{Decision}
use Rattle.decision_chains.specs.declared.decision.Decision.TheVariants.{Yes, No, Low, High}
use Rattle.branch_rules.specs.declared.node.Node.{Node}
use Rattle.branch_rules.specs.declared.node.Node.TheVariants.{Pair, Cut, Price, Void, Fixed}

-- a price or a weight, within 10^15 either way
pub record IsPriceNumber (z : ℤ) : Type 0 where
  pub low : neg_ℤ (pos 1000000000000000) ≤ℤ z
  pub high : z ≤ℤ pos 1000000000000000

-- a weight that is not 0, on the shore of a number from 1
pub record IsFineWeight (w : Weight) : Type 0 where
  pub from_one : 1 ≤ w.shore
  pub some : w.weight ≢ pos 0
  pub within : IsPriceNumber w.weight

-- a surcharge of at most 2,000 groups, within 2 * 10^18 either way
pub record IsSurcharge (z : ℤ) : Type 0 where
  pub low : neg_ℤ (pos 2000000000000000000) ≤ℤ z
  pub high : z ≤ℤ pos 2000000000000000000

-- a weight that is not 0, on a group of two to 600 edges; below 0, on a group of two
pub record IsFineGroup (w : GroupWeight) : Type 0 where
  pub two : 2 ≤ length w.edges
  pub few : length w.edges ≤ 600
  pub rising : IsStrictlyIncreasing w.edges
  pub some : w.weight ≢ pos 0
  pub within : IsPriceNumber w.weight
  pub pair : w.weight <ℤ pos 0 → length w.edges ≡ 2

-- a unit from 1 to 1,000,000, at most 600 prices, at most 2,000 weights on shores of rising numbers, and at most 2,000 on groups, of at
-- most 60,000 edges together
pub record IsPriceSet (set : Prices) : Type 0 where
  pub some_unit : 1 ≤ set.unit
  pub unit_in : set.unit ≤ 1000000
  pub few_services : length set.services ≤ 600
  pub services : All IsPriceNumber set.services
  pub few_weights : length set.weights ≤ 2000
  pub weights : All IsFineWeight set.weights
  pub rising : IsStrictlyIncreasing (map (λ w. w.shore) set.weights)
  pub few_groups : length set.groups ≤ 2000
  pub few_edges : sum_by (λ (w : GroupWeight). length w.edges) set.groups ≤ 60000
  pub groups : All IsFineGroup set.groups

-- the number of a cut is at most 1,000,000
abbrev pub IsFineDecision : Decision → Type 0
IsFineDecision (Yes a b) = Unit {0}
IsFineDecision (No a b) = Unit {0}
IsFineDecision (Low shore k) = k ≤ 1000000
IsFineDecision (High shore k) = k ≤ 1000000

-- the number of a shore of the pool that belongs to the instance
pub record IsShoreOf (p : Problem) (pool : List (List ℕ)) (shore : ℕ) : Type 0 where
  pub number : IsShoreNumber pool shore
  pub belongs : Belongs p (shore_at pool shore)

-- a decision on a shore is on one of the pool, which belongs to the instance
abbrev pub HasShoreOf : Problem → List (List ℕ) → Decision → Type 0
HasShoreOf p pool (Yes a b) = Unit {0}
HasShoreOf p pool (No a b) = Unit {0}
HasShoreOf p pool (Low shore k) = IsShoreOf p pool shore
HasShoreOf p pool (High shore k) = IsShoreOf p pool shore

-- the shores of the decisions are in the pool, and belong to the instance
abbrev pub AreShoresIn : Problem → List (List ℕ) → List Decision → Type 0
AreShoresIn p pool branch = All (HasShoreOf p pool) branch

-- the pair of a node is of required edges, and its shore is one of the pool that belongs to the instance
abbrev pub IsNodeIn : Problem → List (List ℕ) → Node → Type 0
IsNodeIn p pool (Pair a b) = IsPairWithin p.required a b
IsNodeIn p pool (Cut shore k) = IsShoreOf p pool shore
IsNodeIn p pool (Price set) = Unit {0}
IsNodeIn p pool Void = Unit {0}
IsNodeIn p pool Fixed = Unit {0}
