-- Nodes in blocks, and what a block knows of its nodes. No public contract speaks of this but by the list of all nodes.
use Rattle.std.specs.Prelude.{◌≡◌, ℕ, ◌+◌, ◌-◌, ◌*◌, ◌<◌, ◌≤◌, max, List, [], ◌∷◌, ◌++◌, length, map}
use Rattle.std.specs.List.{All}
use Rattle.branch_rules.specs.declared.node.Node.{Node}
use Rattle.branch_rules.specs.declared.node.Node.TheVariants as nodes
use Rattle.grown_trees.specs.Growth.{turns_in}
use Rattle.grown_trees.specs.declared.growing.GrowingNode.{GrowingNode}
use Rattle.grown_trees.specs.declared.block.Skip.{Skip}
use Rattle.grown_trees.specs.declared.block.Summary.{Summary}
use Rattle.grown_trees.specs.declared.blocks.Spot.{Spot}

-- the nodes of all blocks, one block behind the other
abbrev pub joined : List (List GrowingNode) → List GrowingNode
joined [] = []
joined (nodes ∷ rest) = nodes ++ joined rest

-- how many nodes there would have to be more, so that each of the blocks holds at least 511
abbrev pub lacking : List (List GrowingNode) → ℕ
lacking [] = 0
lacking (nodes ∷ rest) = (511 - length nodes) + lacking rest

-- The blocks of a tree, with so many spare ones and memory for so many blocks in their list, do for a room of so many nodes. A half of a
-- block that was divided holds at least 511 nodes, so only the last block that the tree was made with can lack some.
pub record IsProvided (blocks : List (List GrowingNode)) (spare room capacity : ℕ) : Type 0 where
  pub filled : lacking blocks ≤ 511
  pub enough : room + 511 ≤ 511 * (length blocks + spare)
  pub taken : length blocks + spare ≤ capacity

-- the least of a cost and the numbers of the nodes
pub record IsLeast (cost : ℕ) (entries : List GrowingNode) (least : ℕ) : Type 0 where
  pub at_most : least ≤ cost
  pub each : All (λ (entry : GrowingNode). least ≤ entry.shows) entries
  pub greatest : (bound : ℕ) → bound ≤ cost → All (λ (entry : GrowingNode). bound ≤ entry.shows) entries → bound ≤ least

-- an inner node was read as well: it joins two of the whole subtrees behind it, so there have to be two
abbrev pub inner_skipped : Skip → Skip
inner_skipped s = record { need = max s.need (s.inner + 2 - s.leaves); leaves = s.leaves; inner = s.inner + 1 }

-- a leaf was read as well: it is a whole subtree
abbrev pub leaf_skipped : Skip → Skip
leaf_skipped s = record { need = s.need; leaves = s.leaves + 1; inner = s.inner }

-- a node was read as well
abbrev pub node_skipped : Skip → Node → Skip
node_skipped s (nodes.Pair a b) = inner_skipped s
node_skipped s (nodes.Cut shore k) = inner_skipped s
node_skipped s (nodes.Price set) = leaf_skipped s
node_skipped s nodes.Void = leaf_skipped s
node_skipped s nodes.Fixed = leaf_skipped s

-- how many whole subtrees there have to be behind these nodes, read from the last to the first, so that no decision is found in them;
-- and how many leaves and inner nodes they are
abbrev pub skip_of : List Node → Skip
skip_of [] = record { need = 0; leaves = 0; inner = 0 }
skip_of (node ∷ rest) = node_skipped (skip_of rest) node

-- what a block knows of its nodes
pub record IsSummary (entries : List GrowingNode) (s : Summary) : Type 0 where
  pub few : length entries ≤ 1024
  pub turns : s.turns ≡ turns_in s.cost entries
  pub least : IsLeast 18446744073709551615 entries s.least
  pub skip : s.skip ≡ skip_of (map (λ entry. entry.node) entries)

-- the node at a place stands in this block, at this place of the block
pub record IsSpot (blocks : List (List GrowingNode)) (place : ℕ) (spot : Spot) : Type 0 where
  pub before : List (List GrowingNode)
  pub here : List GrowingNode
  pub behind : List (List GrowingNode)
  pub whole : blocks ≡ before ++ (here ∷ behind)
  pub block : spot.block ≡ length before
  pub inside : spot.inner < length here
  pub place_is : place ≡ length (joined before) + spot.inner

-- so it does, and the block has room for two nodes more
pub record IsRoomySpot (blocks : List (List GrowingNode)) (place : ℕ) (spot : Spot) : Type 0 where
  pub spot_is : IsSpot blocks place spot
  pub roomy : length spot_is.here + 2 ≤ 1024
