-- Inner nodes, splits that a search may take, and a leaf that gave way to an inner node with two price leaves. No public contract speaks of
-- this.
use Rattle.std.specs.Prelude.{ℕ, ◌<◌, List}
use Rattle.carp_base.specs.Problem.{Problem, IsRequired}
use Rattle.decision_chains.specs.declared.decision.Decision.{Decision}
use Rattle.decision_chains.specs.Exclusions.{IsDetermined}
use Rattle.decision_chains.specs.Pairs.{IsPairWithin}
use Rattle.branch_rules.specs.declared.node.Node.{Node}
use Rattle.branch_rules.specs.declared.node.Node.TheVariants as nodes
use Rattle.branch_rules.specs.Trees.{Tree, pair, cut, price}

-- a node with two children
abbrev pub IsInner : Node → Type 0
IsInner (nodes.Pair a b) = Unit {0}
IsInner (nodes.Cut shore k) = Unit {0}
IsInner (nodes.Price set) = ⊥
IsInner nodes.Void = ⊥
IsInner nodes.Fixed = ⊥

-- a node with two price leaves of one set
abbrev pub split_tree : Node → ℕ → Tree
split_tree (nodes.Pair a b) set = pair a b (price set) (price set)
split_tree (nodes.Cut shore k) set = cut shore k (price set) (price set)
split_tree (nodes.Price other) set = price set
split_tree nodes.Void set = price set
split_tree nodes.Fixed set = price set

-- a node that splits by a pair of required edges that is not determined, the first edge below the second
abbrev pub IsOpenPair : Problem → List Decision → Node → Type 0
IsOpenPair p branch (nodes.Pair a b) = IsPairWithin p.required a b × (a < b) × ¬ (IsDetermined p branch a b)
IsOpenPair p branch (nodes.Cut shore k) = ⊥
IsOpenPair p branch (nodes.Price set) = ⊥
IsOpenPair p branch nodes.Void = ⊥
IsOpenPair p branch nodes.Fixed = ⊥

-- each pair of an edge and a later one is determined, if the edge is below the number n
abbrev pub AreSettledBelow : Problem → List Decision → ℕ → Type 0
AreSettledBelow p branch n = (a b : ℕ) → IsRequired p a → IsRequired p b → a < n → a < b → IsDetermined p branch a b

-- each pair of the edge a and a later one is determined, if the later one is below the number n
abbrev pub IsSettledBelow : Problem → List Decision → ℕ → ℕ → Type 0
IsSettledBelow p branch a n = (b : ℕ) → IsRequired p b → a < b → b < n → IsDetermined p branch a b
