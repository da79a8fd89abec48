-- What a search for the fewest groups finds.
use Rattle.std.specs.Prelude.{◌≡◌, ℕ, ◌+◌, ◌-◌, ◌*◌, ◌/◌, ◌^◌, ◌<◌, ◌≤◌, List, [], length}
use Rattle.carp_base.specs.Problem.{Problem}
use Rattle.carp_base.specs.Packings.{IsPacking}
use Rattle.packing_trees.specs.declared.packing.Packing.{Packing}
use Rattle.packing_trees.specs.Trees.{PackTree, PairsIn, IsLean, Shows, preorder, turns_of}
use Rattle.fleet_pack.specs.FirstFit.{first_fit_count}

-- the nodes are those of a lean tree that shows the bound, which is the greatest up to the count that it shows, and it has so many turns
pub record HasTree (p : Problem) (found : Packing) : Type 0 where
  pub tree : PackTree
  pub nodes_are : preorder tree ≡ found.tree.items
  pub pairs : PairsIn p tree
  pub lean : IsLean p [] tree
  pub shows : Shows p [] found.bound tree
  pub most : found.bound ≤ found.count
  pub greatest : (b : ℕ) → b ≤ found.count → Shows p [] b tree → b ≤ found.bound
  pub turns_are : found.turns ≡ turns_of p [] found.count tree

-- enough turns for every lean tree
abbrev pub all_turns : Problem → ℕ
all_turns p = 2 ^ (p.required * (p.required - 1) / 2 + 1)

-- a packing of no more groups than first fit takes, with such a tree of few nodes: where the bound is below the count the turns were used up, so that
-- with enough turns no packing has fewer groups; and every packing has at least as many groups as the bound says
pub record IsPacked (p : Problem) (turns : ℕ) (found : Packing) : Type 0 where
  pub packing : IsPacking p found.groups.items found.count
  pub first_fit : found.count ≤ first_fit_count p
  pub tree : HasTree p found
  pub few : length found.tree.items ≤ 2 * turns + 1
  pub ended : found.bound < found.count → turns ≤ found.turns
  pub whole : all_turns p ≤ turns → found.bound ≡ found.count
  pub exact : (groups : List ℕ) (count : ℕ) → IsPacking p groups count → found.bound ≤ count
