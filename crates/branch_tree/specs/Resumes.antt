-- What a search may go on from.
use Rattle.std.specs.Prelude.{◌≡◌, ℕ, ◌^◌, ◌<◌, ◌≤◌, List, [], length}
use Rattle.std.specs.List.{All}
use Rattle.carp_base.specs.Problem.{Problem}
use Rattle.plan_model.specs.declared.step.Step.{Step}
use Rattle.plan_model.specs.Plans.{IsLawful, plan_cost}
use Rattle.cut_pool.specs.Shores.{Belongs}
use Rattle.branch_rules.specs.Limits.{IsNodeIn, IsPriceSet}
use Rattle.branch_rules.specs.Prices.{Prices}
use Rattle.branch_rules.specs.Trees.{Tree, preorder, HasTurns, IsLean, Shows, Support}
use Rattle.grown_trees.specs.Growth.{AreNoted, IsSpelledNode, turns_in}
use Rattle.grown_trees.specs.Stands.{stands}
use Rattle.grown_trees.specs.declared.growing.GrowingNode.{GrowingNode}
use Rattle.branch_tree.specs.Searches.{IsHeldSet, State}
use Rattle.branch_tree.specs.Values.{just_above}

-- what a tree rests on
abbrev pub support_on : Problem → List (List ℕ) → List Prices → Support
support_on p pool sets = record { problem = p; pool = pool; sets = sets }

-- The nodes of a lean tree that shows a bound, each with the greatest bound that it shows. The tree, its price sets and its shores are as
-- a certificate may have them, and no lawful plan costs less than the bound.
pub record MayResume (p : Problem) (pool : List (List ℕ)) (sets : List Prices) (least : ℕ) (nodes : List GrowingNode) : Type 0 where
  pub tree : Tree
  pub noted : AreNoted (support_on p pool sets) (stands [] tree) nodes
  pub inside : All (IsNodeIn p pool) (preorder tree)
  pub spelled : All (IsSpelledNode (length sets)) (preorder tree)
  pub lean : IsLean (support_on p pool sets) [] 4 tree
  pub shows : Shows (support_on p pool sets) [] least tree
  pub below : (plan : List (List Step)) → IsLawful p plan → least ≤ plan_cost p plan
  pub fine : All IsPriceSet sets
  pub held : All (IsHeldSet p pool) sets
  pub few_sets : length sets ≤ 256
  pub belong : All (Belongs p) pool
  pub few_nodes : length (preorder tree) ≤ 2097153

-- their turns for a cost are the nodes that show it
abbrev pub ResumedTreesHaveTurns : Type 0
ResumedTreesHaveTurns = (p : Problem) (pool : List (List ℕ)) (sets : List Prices) (least : ℕ) (nodes : List GrowingNode) (may : MayResume p pool sets least nodes) → least < 10 ^ 18 →
    (cost : ℕ) → cost < 10 ^ 18 → HasTurns (support_on p pool sets) [] cost may.tree (turns_in cost nodes)

-- a search that goes on from there with a plan: it holds the plan, the shores, the price sets, the nodes and the bound that are given, its
-- base is the bound less 1, and a millionth more, and its turns so far are those of the nodes for the plan's cost
pub record IsResumed (p : Problem) (plan : List (List Step)) (pool : List (List ℕ)) (sets : List Prices) (least : ℕ) (nodes : List GrowingNode) (s : State) : Type 0 where
  pub best : s.plan ≡ plan
  pub pool_is : s.pool ≡ pool
  pub sets_are : s.sets ≡ sets
  pub nodes_are : s.nodes ≡ nodes
  pub least_is : s.least ≡ least
  pub base_is : s.base ≡ just_above least
  pub done_is : s.done ≡ turns_in (plan_cost p plan) nodes
