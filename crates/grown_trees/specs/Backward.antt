-- The decisions on the way to a place, found from the nodes before it, read backward.
use Rattle.std.specs.Prelude.{ℕ, zero, suc, List, [], ◌∷◌, ◌++◌}
use Rattle.decision_chains.specs.declared.decision.Decision.{Decision}
use Rattle.decision_chains.specs.declared.decision.Decision.TheVariants.{Yes, No, Low, High}
use Rattle.branch_rules.specs.declared.node.Node.{Node}
use Rattle.branch_rules.specs.declared.node.Node.TheVariants as nodes
use Rattle.grown_trees.specs.declared.way.Way.{Way}

-- the decisions that were found, the last of the way first, and the number of whole subtrees since the last of them
pub record Found : Type 0 where
  pub decisions : List Decision
  pub whole : ℕ

-- a node with two children was read. With no whole subtree behind it the way goes through its first child, with one through its
-- second child; with more it is the root of a whole subtree itself
abbrev pub split_read : List Decision → (whole : ℕ) → (first second : Decision) → Found
split_read decisions zero first second = record { decisions = decisions ++ first ∷ []; whole = 0 }
split_read decisions (suc zero) first second = record { decisions = decisions ++ second ∷ []; whole = 0 }
split_read decisions (suc (suc n)) first second = record { decisions = decisions; whole = suc n }

-- a node was read
abbrev pub node_read : Found → Node → Found
node_read found (nodes.Pair a b) = split_read found.decisions found.whole (Yes a b) (No a b)
node_read found (nodes.Cut shore k) = split_read found.decisions found.whole (Low shore k) (High shore k)
node_read found (nodes.Price set) = record { decisions = found.decisions; whole = suc found.whole }
node_read found nodes.Void = record { decisions = found.decisions; whole = suc found.whole }
node_read found nodes.Fixed = record { decisions = found.decisions; whole = suc found.whole }

-- nodes were read as well, from the last to the first
abbrev pub read_from : Found → List Node → Found
read_from found [] = found
read_from found (node ∷ rest) = node_read (read_from found rest) node

-- nodes were read, from the last to the first
abbrev pub all_read : List Node → Found
all_read nodes = read_from (record { decisions = []; whole = 0 }) nodes

-- what a way holds
abbrev pub found_by : Way → Found
found_by way = record { decisions = way.decisions.items; whole = way.whole }
