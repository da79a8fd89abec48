-- What a search holds.
use Rattle.std.specs.Prelude.{◌≡◌, ℕ, zero, suc, ◌+◌, ◌*◌, ◌≤◌, List, [], ◌∷◌, length, map, slice_index_or, pos, ◌≤ℤ◌}
use Rattle.std.specs.List.{All}
use Rattle.carp_base.specs.Problem.{Problem, IsValid}
use Rattle.plan_model.specs.declared.step.Step.{Step}
use Rattle.plan_model.specs.Plans.{IsLawful, plan_cost}
use Rattle.task_tours.specs.Shorts.{IsAllowedPlan}
use Rattle.deadhead_paths.specs.Prices.{costs_of}
use Rattle.cut_pool.specs.Shores.{Belongs}
use Rattle.route_pricing.specs.Tables.{IsRoom}
use Rattle.branch_rules.specs.Bonds.{GroupWeight}
use Rattle.branch_rules.specs.Limits.{IsShoreOf}
use Rattle.branch_rules.specs.Prices.{Prices}
use Rattle.branch_rules.specs.Refusals.{NoneTooHeavy}
use Rattle.branch_rules.specs.Trees.{Tree, Support, no_prices}
use Rattle.branch_rules.specs.declared.node.Node.TheVariants as nodes
use Rattle.dual_master.specs.Floors.{plain_value}
use Rattle.dual_master.specs.Singles.{IsFloorPool}
use Rattle.grown_trees.specs.Growth.{AreSound, Fraction, turns_in}
use Rattle.grown_trees.specs.Stands.{stands}
use Rattle.grown_trees.specs.Values.{IsShown}
use Rattle.grown_trees.specs.declared.growing.GrowingNode.{GrowingNode}
use Rattle.branch_tree.specs.declared.search.Search.{Search}
use Rattle.branch_tree.specs.Values.{IsFloored, ReachesFloors}

-- what a search holds, as plain data: its shores, its price sets, the nodes of its tree, each with the greatest bound that it shows, and
-- the best plan with its cost and the tree's turns for this cost; a bound that the tree showed when the search began, and the fraction that its
-- price leaves reached then
pub record State : Type 0 where
  pub pool : List (List ℕ)
  pub sets : List Prices
  pub nodes : List GrowingNode
  pub plan : List (List Step)
  pub cost : ℕ
  pub done : ℕ
  pub least : ℕ
  pub base : Fraction

abbrev pub state_of : Search → State
state_of s = record { pool = s.pool; sets = s.sets.items; nodes = s.tree.nodes; plan = s.best; cost = s.cost; done = s.done; least = s.least; base = record { unit = s.base.unit; value = s.base.value } }

-- the price set of a number from 1
abbrev pub set_in : List Prices → ℕ → Prices
set_in sets zero = no_prices
set_in sets (suc k) = slice_index_or sets k no_prices

-- what a price leaf rests on
abbrev pub support_in : Problem → State → Support
support_in p s = record { problem = p; pool = s.pool; sets = s.sets }

-- each edge of the group has a number from 1 to 600
abbrev pub IsGroupInRange : GroupWeight → Type 0
IsGroupInRange w = All (λ e. (1 ≤ e) × (e ≤ 600)) w.edges

-- so has each edge of each group of the price set
abbrev pub HasGroupsInRange : Prices → Type 0
HasGroupsInRange set = All IsGroupInRange set.groups

-- a price set that a certificate may have: a price for each required edge, no negative price of a deadhead, its shores are in the pool and
-- belong to the instance, and the edges of its groups are in range
pub record IsHeldSet (p : Problem) (pool : List (List ℕ)) (set : Prices) : Type 0 where
  pub one_each : length set.services ≡ p.required
  pub not_negative : NoneTooHeavy p pool set
  pub shores : All (λ w. IsShoreOf p pool w.shore) set.weights
  pub groups : HasGroupsInRange set

-- A lean tree that grew leaf by leaf. Each price leaf names a set that fits there, and whose value, divided by its denominator, is at least
-- the fraction that the search began with; each node has with it the greatest bound that it shows. The fraction shows the bound of the
-- beginning, and no lawful plan costs less than either. There are at most 256 sets.
pub record IsHeld (p : Problem) (s : State) : Type 0 where
  pub valid : IsValid p
  pub below : (plan : List (List Step)) → IsLawful p plan → s.least ≤ plan_cost p plan
  pub some_unit : 1 ≤ s.base.unit
  pub shown : IsShown s.base.unit s.base.value s.least
  pub beneath : (plan : List (List Step)) → IsLawful p plan → s.base.value ≤ℤ pos (s.base.unit * plan_cost p plan)
  pub tree : Tree
  pub sound : AreSound (support_in p s) s.base (stands [] tree) s.nodes
  pub sets : All (IsHeldSet p s.pool) s.sets
  pub few_sets : length s.sets ≤ 256
  pub belong : All (Belongs p) s.pool
  pub allowed : IsAllowedPlan p s.plan
  pub cost_is : s.cost ≡ plan_cost p s.plan
  pub done_is : s.done ≡ turns_in s.cost s.nodes
  pub few_nodes : length s.nodes ≤ 2 * s.done + 1

-- a search for an instance, whose tree has memory for all nodes that a budget of turns can make, and no more nodes
pub record IsSearch (p : Problem) (s : Search) : Type 0 where
  pub net : s.net ≡ p
  pub problem : s.dist.problem ≡ p
  pub costs : s.dist.prices ≡ costs_of p
  pub table : IsRoom p s.table
  pub some_turns : 1 ≤ s.turns
  pub turns_in_range : s.turns ≤ 1048576
  pub room : s.tree.room ≡ 2 * s.turns + 1
  pub few : length s.tree.nodes ≤ s.tree.room
  pub held : IsHeld p (state_of s)

-- a search that has just begun: the tree is one price leaf, which names the best set of the floors, a set without groups, and the pool is as
-- the floors leave it; the base is the value of the set, divided by its denominator, which is at least each floor, and so is the bound
-- that it shows
pub record IsBegun (p : Problem) (plan : List (List Step)) (s : State) : Type 0 where
  pub best : s.plan ≡ plan
  pub set : Prices
  pub one_set : s.sets ≡ set ∷ []
  pub no_groups : set.groups ≡ []
  pub pool : IsFloorPool p s.pool set
  pub leaf : map (λ entry. entry.node) s.nodes ≡ nodes.Price 1 ∷ []
  pub base_is : s.base ≡ record { unit = set.unit; value = plain_value p s.pool set }
  pub reached : ReachesFloors p s.base
  pub floored : IsFloored p s.least
