-- What is true of a tree if something is true of each of its nodes, under the decisions on the way to it.
use Rattle.std.specs.Prelude.{ℕ, ◌-◌, ◌≤◌, List, [], ◌∷◌, ◌++◌, length}
use Rattle.std.specs.List.{All}
use Rattle.cut_pool.specs.Pools.{IsShoreNumber}
use Rattle.decision_chains.specs.declared.decision.Decision.{Decision}
use Rattle.decision_chains.specs.declared.decision.Decision.TheVariants.{Yes, No, Low, High}
use Rattle.branch_rules.specs.Decisions.{cuts_of, IsVoid}
use Rattle.branch_rules.specs.Laws.{FitsBranch}
use Rattle.branch_rules.specs.Prices.{Prices}
use Rattle.branch_rules.specs.declared.node.Node.{Node}
use Rattle.branch_rules.specs.declared.node.Node.TheVariants as nodes
use Rattle.branch_rules.specs.Trees.{Tree, pair, cut, price, void, fixed, Support, set_at, PriceShows, FixedShows, IsLeanNode}

-- a node, and the decisions on the way to it
pub record Stand : Type 0 where
  pub branch : List Decision
  pub node : Node

-- the nodes of a tree in preorder, each with the decisions on the way to it, behind those of the root
abbrev pub stands : List Decision → Tree → List Stand
stands branch (pair a b together apart) =
    record { branch = branch; node = nodes.Pair a b } ∷ (stands (branch ++ Yes a b ∷ []) together ++ stands (branch ++ No a b ∷ []) apart)
stands branch (cut shore k below above) =
    record { branch = branch; node = nodes.Cut shore k } ∷ (stands (branch ++ Low shore k ∷ []) below ++ stands (branch ++ High shore k ∷ []) above)
stands branch (price set) = record { branch = branch; node = nodes.Price set } ∷ []
stands branch void = record { branch = branch; node = nodes.Void } ∷ []
stands branch fixed = record { branch = branch; node = nodes.Fixed } ∷ []

-- a node may stand where it stands in a lean tree of at most so many cuts on a path
abbrev pub IsLeanStand : Support → (cuts : ℕ) → Stand → Type 0
IsLeanStand c cuts s = IsLeanNode c.problem c.pool s.branch (cuts - cuts_of s.branch) s.node

-- a leaf shows the bound under the decisions on the way to it
abbrev pub NodeShows : Support → (bound : ℕ) → List Decision → Node → Type 0
NodeShows c bound branch (nodes.Pair a b) = Unit {0}
NodeShows c bound branch (nodes.Cut shore k) = Unit {0}
NodeShows c bound branch (nodes.Price set) = PriceShows c branch bound set
NodeShows c bound branch nodes.Void = IsVoid c.problem c.pool branch
NodeShows c bound branch nodes.Fixed = FixedShows c branch bound

-- the same, of a node where it stands
abbrev pub IsShownStand : Support → (bound : ℕ) → Stand → Type 0
IsShownStand c bound s = NodeShows c bound s.branch s.node

-- a price leaf names a set that fits under the decisions on the way to it
abbrev pub NodeFits : Support → List Decision → Node → Type 0
NodeFits c branch (nodes.Pair a b) = Unit {0}
NodeFits c branch (nodes.Cut shore k) = Unit {0}
NodeFits c branch (nodes.Price set) = (1 ≤ set) × (set ≤ length c.sets) × FitsBranch c.problem c.pool branch (set_at c set)
NodeFits c branch nodes.Void = Unit {0}
NodeFits c branch nodes.Fixed = Unit {0}

-- the same, of a node where it stands
abbrev pub IsFitStand : Support → Stand → Type 0
IsFitStand c s = NodeFits c s.branch s.node

-- each price leaf names a set that fits under the decisions on the way to it
abbrev pub PricesFit : Support → List Decision → Tree → Type 0
PricesFit c branch tree = All (IsFitStand c) (stands branch tree)

-- a support with more price sets behind its own
abbrev pub with_sets : Support → List Prices → Support
with_sets c more = record { problem = c.problem; pool = c.pool; sets = c.sets ++ more }

-- a support with more shores behind its own
abbrev pub with_shores : Support → List (List ℕ) → Support
with_shores c more = record { problem = c.problem; pool = c.pool ++ more; sets = c.sets }

-- the shores of the weights of each price set are in the pool
abbrev pub HoldsShores : Support → Type 0
HoldsShores c = All (λ set. All (λ w. IsShoreNumber c.pool w.shore) set.weights) c.sets
