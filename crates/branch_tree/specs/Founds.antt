-- What a search has found.
use Rattle.std.specs.Prelude.{◌≡◌, ℕ, ◌≤◌, List, [], length}
use Rattle.std.specs.List.{All}
use Rattle.carp_base.specs.Problem.{Problem, IsValid}
use Rattle.plan_model.specs.Plans.{plan_cost}
use Rattle.plan_model.specs.declared.step.Step.{Step}
use Rattle.task_tours.specs.Shorts.{IsAllowedPlan}
use Rattle.cut_pool.specs.Shores.{Belongs}
use Rattle.branch_rules.specs.Limits.{IsNodeIn}
use Rattle.branch_rules.specs.Prices.{Prices}
use Rattle.branch_rules.specs.Trees.{Tree, preorder, IsLean, HasTurns, PairsIn, Shows, Support}
use Rattle.branch_rules.specs.declared.node.Node.{Node}
use Rattle.grown_trees.specs.Growth.{IsSpelledNode}
use Rattle.grown_trees.specs.Stands.{PricesFit}
use Rattle.branch_tree.specs.declared.finishing.Found.{Found}
use Rattle.branch_tree.specs.Searches.{IsHeldSet}

-- what was found, as plain data
pub record Findings : Type 0 where
  pub plan : List (List Step)
  pub pool : List (List ℕ)
  pub sets : List Prices
  pub nodes : List Node
  pub bound : ℕ

abbrev pub findings_of : Found → Findings
findings_of f = record { plan = f.plan; pool = f.shores; sets = f.sets.items; nodes = f.tree.nodes; bound = f.bound }

abbrev pub support_found : Problem → Findings → Support
support_found p f = record { problem = p; pool = f.pool; sets = f.sets }

-- A lawful plan that a certificate can hold, and the nodes of a lean tree in preorder, whose price leaves name sets that fit there. The tree has so many turns for
-- the plan's cost, and the bound is the greatest up to this cost that the tree shows.
pub record IsFound (p : Problem) (f : Findings) (turns : ℕ) : Type 0 where
  pub valid : IsValid p
  pub allowed : IsAllowedPlan p f.plan
  pub belong : All (Belongs p) f.pool
  pub sets : All (IsHeldSet p f.pool) f.sets
  pub few_sets : length f.sets ≤ 256
  pub few_nodes : length f.nodes ≤ 2097153
  pub inside : All (IsNodeIn p f.pool) f.nodes
  pub spelled : All (IsSpelledNode (length f.sets)) f.nodes
  pub tree : Tree
  pub in_preorder : preorder tree ≡ f.nodes
  pub pairs : PairsIn p tree
  pub lean : IsLean (support_found p f) [] 4 tree
  pub fits : PricesFit (support_found p f) [] tree
  pub turns_are : HasTurns (support_found p f) [] (plan_cost p f.plan) tree turns
  pub at_most : f.bound ≤ plan_cost p f.plan
  pub shows : Shows (support_found p f) [] f.bound tree
  pub greatest : (other : ℕ) → other ≤ plan_cost p f.plan → Shows (support_found p f) [] other tree → other ≤ f.bound
