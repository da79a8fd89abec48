-- What a tree is over the price sets that it names.
use Rattle.std.specs.Prelude.{◌≡◌, ℕ, List, [], length, Contains}
use Rattle.std.specs.List.{All}
use Rattle.branch_rules.specs.Limits.{IsNodeIn}
use Rattle.branch_rules.specs.Prices.{Prices}
use Rattle.branch_rules.specs.Trees.{Tree, preorder, IsLean, Shows, Support}
use Rattle.grown_trees.specs.Growth.{AreNoted, IsSpelledNode, turns_in}
use Rattle.grown_trees.specs.Stands.{stands}
use Rattle.grown_trees.specs.declared.growing.GrowingNode.{GrowingNode}
use Rattle.tree_transfer.specs.Named.{AreNamedSets}

-- a support with these price sets in place of its own
abbrev pub with_only : Support → List Prices → Support
with_only c sets = record { problem = c.problem; pool = c.pool; sets = sets }

-- A tree over new price sets, which are old ones, in place of one over the old ones: as long and as lean, with pairs and shores as good, and
-- its price leaves name new sets. It shows each bound that the old one shows. Its nodes are noted, and have as many turns for a cost.
pub record StandsIn (c : Support) (new : List Prices) (before after : List GrowingNode) (tree : Tree) : Type 0 where
  pub old_sets : All (Contains c.sets) new
  pub other : Tree
  pub noted : AreNoted (with_only c new) (stands [] other) after
  pub inside : All (IsNodeIn c.problem c.pool) (preorder tree) → All (IsNodeIn c.problem c.pool) (preorder other)
  pub spelled : All (IsSpelledNode (length new)) (preorder other)
  pub lean : (cuts : ℕ) → IsLean c [] cuts tree → IsLean (with_only c new) [] cuts other
  pub shows : (bound : ℕ) → Shows c [] bound tree → Shows (with_only c new) [] bound other
  pub as_long : length (preorder other) ≡ length (preorder tree)
  pub turns : (cost : ℕ) → turns_in cost after ≡ turns_in cost before

-- the price sets that a noted tree names are all that it needs
abbrev pub NamedSetsSuffice : Type 0
NamedSetsSuffice = (c : Support) (new : List Prices) (before after : List GrowingNode) (tree : Tree) → All (IsSpelledNode (length c.sets)) (preorder tree) → AreNoted c (stands [] tree) before →
    AreNamedSets c.sets new before after → StandsIn c new before after tree
