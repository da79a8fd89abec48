-- Packing trees, and the bound that they show.
use Rattle.std.specs.Prelude.{◌≡◌, ℕ, ◌+◌, ◌*◌, ◌≤◌, List, [], ◌∷◌, ◌++◌, if◌then◌else◌, nat_le}
use Rattle.carp_base.specs.Problem.{Problem}
use Rattle.packing_trees.specs.declared.node.PackChoice.{PackChoice}
use Rattle.packing_trees.specs.declared.node.PackChoice.TheVariants as choices
use Rattle.packing_trees.specs.declared.node.PackNode.{PackNode}
use Rattle.packing_trees.specs.declared.node.PackNode.TheVariants.{Pair, Share, Apart}
use Rattle.packing_trees.specs.Bundles.{IsPair, IsClosedPair, AreAllClosed, bundle_count, share_value}

-- a tree: a pair with two subtrees, of its edges together and apart, or a leaf
pub data PackTree : Type 0 where
  pair : (a b : ℕ) (together apart : PackTree) → PackTree
  share : (s : ℕ) → PackTree
  settled : PackTree

-- the nodes of a tree, each before its children, the first child before the second
abbrev pub preorder : PackTree → List PackNode
preorder (pair a b together apart) = Pair a b ∷ (preorder together ++ preorder apart)
preorder (share s) = Share s ∷ []
preorder settled = Apart ∷ []

-- each pair is of two required edges, the lesser one first
abbrev pub PairsIn : Problem → PackTree → Type 0
PairsIn p (pair a b together apart) = IsPair p a b × PairsIn p together × PairsIn p apart
PairsIn p (share s) = Unit {0}
PairsIn p settled = Unit {0}

-- no pair is closed where it is split
abbrev pub IsLean : Problem → List PackChoice → PackTree → Type 0
IsLean p branch (pair a b together apart) =
    ¬ (IsClosedPair p branch a b) × IsLean p (branch ++ choices.Together a b ∷ []) together × IsLean p (branch ++ choices.Apart a b ∷ []) apart
IsLean p branch (share s) = Unit {0}
IsLean p branch settled = Unit {0}

-- each leaf is lawful, and its value is at least the bound: a share of at most half the capacity, or the number of the bundles where
-- each pair is closed
abbrev pub Shows : Problem → List PackChoice → ℕ → PackTree → Type 0
Shows p branch bound (pair a b together apart) =
    Shows p (branch ++ choices.Together a b ∷ []) bound together × Shows p (branch ++ choices.Apart a b ∷ []) bound apart
Shows p branch bound (share s) = (2 * s ≤ p.capacity) × (bound ≤ share_value p branch s)
Shows p branch bound settled = AreAllClosed p branch × (bound ≤ bundle_count p branch)

-- the turns of a tree for a count: its inner nodes, and its leaves whose value is at least the count
abbrev pub turns_of : Problem → List PackChoice → ℕ → PackTree → ℕ
turns_of p branch count (pair a b together apart) =
    turns_of p (branch ++ choices.Together a b ∷ []) count together + turns_of p (branch ++ choices.Apart a b ∷ []) count apart + 1
turns_of p branch count (share s) = if nat_le count (share_value p branch s) then 1 else 0
turns_of p branch count settled = if nat_le count (bundle_count p branch) then 1 else 0

-- a tree that proves a bound: its nodes are these in preorder, its pairs are of required edges, it is lean, and it shows the bound
pub record IsPackProof (p : Problem) (nodes : List PackNode) (bound : ℕ) : Type 0 where
  pub tree : PackTree
  pub nodes_are : preorder tree ≡ nodes
  pub pairs : PairsIn p tree
  pub lean : IsLean p [] tree
  pub shows : Shows p [] bound tree
