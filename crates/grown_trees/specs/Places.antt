-- Places of a tree: the decisions on the way to the node at a place, and a tree with another one in place of a leaf.
use Rattle.std.specs.Prelude.{ℕ, zero, suc, ◌-◌, ◌≤◌, ◌<◌, List, [], ◌∷◌, ◌++◌, length, if◌then◌else◌, nat_lt}
use Rattle.decision_chains.specs.declared.decision.Decision.{Decision}
use Rattle.decision_chains.specs.declared.decision.Decision.TheVariants.{Yes, No, Low, High}
use Rattle.branch_rules.specs.declared.node.Node.{Node}
use Rattle.branch_rules.specs.declared.node.Node.TheVariants as nodes
use Rattle.branch_rules.specs.Trees.{Tree, pair, cut, price, void, fixed, preorder, node_at}

-- the number of nodes of a tree; its places are the numbers below it, in preorder
abbrev pub size_of : Tree → ℕ
size_of tree = length (preorder tree)

-- a node without children
abbrev pub IsLeaf : Node → Type 0
IsLeaf (nodes.Pair a b) = ⊥
IsLeaf (nodes.Cut shore k) = ⊥
IsLeaf (nodes.Price set) = Unit {0}
IsLeaf nodes.Void = Unit {0}
IsLeaf nodes.Fixed = Unit {0}

-- at the place stands a leaf
pub record IsLeafAt (tree : Tree) (i : ℕ) : Type 0 where
  pub inside : i < size_of tree
  pub leaf : IsLeaf (node_at (preorder tree) i)

-- the decisions on the way to the node at a place, behind those of the root: the way goes to the first child if the place is among its
-- places, and to the second child otherwise
abbrev pub branch_to : List Decision → Tree → ℕ → List Decision
branch_to branch (pair a b together apart) zero = branch
branch_to branch (pair a b together apart) (suc i) =
    if nat_lt i (size_of together) then branch_to (branch ++ Yes a b ∷ []) together i else branch_to (branch ++ No a b ∷ []) apart (i - size_of together)
branch_to branch (cut shore k below above) zero = branch
branch_to branch (cut shore k below above) (suc i) =
    if nat_lt i (size_of below) then branch_to (branch ++ Low shore k ∷ []) below i else branch_to (branch ++ High shore k ∷ []) above (i - size_of below)
branch_to branch (price set) i = branch
branch_to branch void i = branch
branch_to branch fixed i = branch

-- the subtree at a place replaced by another tree
abbrev pub grown : Tree → ℕ → Tree → Tree
grown (pair a b together apart) zero sub = sub
grown (pair a b together apart) (suc i) sub =
    if nat_lt i (size_of together) then pair a b (grown together i sub) apart else pair a b together (grown apart (i - size_of together) sub)
grown (cut shore k below above) zero sub = sub
grown (cut shore k below above) (suc i) sub =
    if nat_lt i (size_of below) then cut shore k (grown below i sub) above else cut shore k below (grown above (i - size_of below) sub)
grown (price set) i sub = sub
grown void i sub = sub
grown fixed i sub = sub

-- the number of a cut is at most 1,000,000
abbrev pub IsFineNode : Node → Type 0
IsFineNode (nodes.Pair a b) = Unit {0}
IsFineNode (nodes.Cut shore k) = k ≤ 1000000
IsFineNode (nodes.Price set) = Unit {0}
IsFineNode nodes.Void = Unit {0}
IsFineNode nodes.Fixed = Unit {0}
