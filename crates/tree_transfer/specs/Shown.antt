-- Trees as lists of nodes, and the greatest bound that a tree shows.
use Rattle.std.specs.Prelude.{◌≡◌, ℕ, ◌≤◌, ◌↔◌, List, []}
use Rattle.std.specs.List.{All}
use Rattle.carp_base.specs.Problem.{Problem}
use Rattle.branch_rules.specs.Limits.{IsNodeIn, IsShoreOf}
use Rattle.branch_rules.specs.Trees.{Tree, preorder, Support, Shows}
use Rattle.branch_rules.specs.declared.node.Node.{Node}
use Rattle.tree_transfer.specs.Carried.{IsCarried, WouldShow}
use Rattle.grown_trees.specs.Growth.{AreNoted}
use Rattle.grown_trees.specs.Places.{IsFineNode}
use Rattle.grown_trees.specs.Stands.{stands}
use Rattle.grown_trees.specs.declared.growing.GrowingNode.{GrowingNode}

-- the nodes are those of a tree in preorder; their pairs are of required edges, their shores are in the pool and belong to the instance, and
-- the numbers of their cuts are at most 1,000,000
pub record AreTreeNodes (p : Problem) (pool : List (List ℕ)) (nodes : List Node) : Type 0 where
  pub tree : Tree
  pub in_preorder : preorder tree ≡ nodes
  pub inside : All (IsNodeIn p pool) nodes
  pub fine : All IsFineNode nodes

-- the nodes are those of a tree that is carried over from one with these nodes
pub record AreCarried (p : Problem) (pool : List (List ℕ)) (old new : List Node) : Type 0 where
  pub tree : Tree
  pub carried : Tree
  pub old_nodes : preorder tree ≡ old
  pub new_nodes : preorder carried ≡ new
  pub is : IsCarried p pool [] tree carried

-- the nodes are those of a tree that would show some bound
pub record WouldShowSome (c : Support) (nodes : List Node) : Type 0 where
  pub tree : Tree
  pub in_preorder : preorder tree ≡ nodes
  pub bound : ℕ
  pub shows : WouldShow c [] bound tree

-- the shores of the weights of each price set are in the pool and belong to the instance
abbrev pub HasShores : Support → Type 0
HasShores c = All (λ set. All (λ w. IsShoreOf c.problem c.pool w.shore) set.weights) c.sets

-- the greatest bound, up to the cost, that the tree of these nodes shows; each fixed branch of it has a value
pub record IsGreatestShown (c : Support) (cost : ℕ) (nodes : List Node) (bound : ℕ) : Type 0 where
  pub at_most : bound ≤ cost
  pub shows : (tree : Tree) (b : ℕ) → preorder tree ≡ nodes → b ≤ cost → Shows c [] b tree ↔ (b ≤ bound)
  pub values : (tree : Tree) (b : ℕ) → preorder tree ≡ nodes → WouldShow c [] b tree → Shows c [] b tree

-- the nodes of a tree, each with the greatest bound that it shows where it stands
abbrev pub AreNotedNodes : Support → List Node → List GrowingNode → Type 0
AreNotedNodes c nodes entries = (tree : Tree) → preorder tree ≡ nodes → AreNoted c (stands [] tree) entries
