-- The branches that wait while a tree is read node by node.
use Rattle.std.specs.Prelude.{List, [], ◌∷◌, ◌++◌}
use Rattle.decision_chains.specs.declared.decision.Decision.{Decision}
use Rattle.decision_chains.specs.declared.decision.Decision.TheVariants.{Yes, No, Low, High}
use Rattle.branch_rules.specs.declared.node.Node.{Node}
use Rattle.branch_rules.specs.declared.node.Node.TheVariants as nodes

-- the branches that wait after a node under the first of them: those of its children come next
abbrev pub waiting_after : List Decision → Node → List (List Decision) → List (List Decision)
waiting_after branch (nodes.Pair a b) waiting = (branch ++ Yes a b ∷ []) ∷ (branch ++ No a b ∷ []) ∷ waiting
waiting_after branch (nodes.Cut border k) waiting = (branch ++ Low border k ∷ []) ∷ (branch ++ High border k ∷ []) ∷ waiting
waiting_after branch (nodes.Price set) waiting = waiting
waiting_after branch nodes.Void waiting = waiting
waiting_after branch nodes.Fixed waiting = waiting
