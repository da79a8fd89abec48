-- What is known after some nodes.
use Rattle.std.specs.Prelude.{◌≡◌, ℕ, ◌≤◌, List, [], ◌∷◌, length, Option, Some, None}
use Rattle.decision_chains.specs.declared.decision.Decision.{Decision}
use Rattle.branch_rules.specs.Trees.{Support}
use Rattle.branch_rules.specs.declared.node.Node.{Node}
use Rattle.cert_lines.specs.Order.{open_after}
use Rattle.cert_checker.specs.declared.checker.Checker.{Checker}
use Rattle.cert_checker.specs.declared.reason.Reason.{Reason}
use Rattle.cert_checker.specs.Nodes.{NodesStand, FirstNodeFails}
use Rattle.branch_rules.specs.Waiting.{waiting_after}
use Rattle.cert_checker.specs.Leaves.{AreLeaves}
use Rattle.branch_rules.specs.Paths.{IsPath, IsPathIn, waits}

-- the branches that wait after some nodes
abbrev pub waiting_for : List Node → List (List Decision) → List (List Decision)
waiting_for [] waiting = waiting
waiting_for (node ∷ taken) [] = []
waiting_for (node ∷ taken) (branch ∷ waiting) = waiting_for taken (waiting_after branch node waiting)

-- after these nodes: the first reason, or that all are as they should be, their number, and the branches that wait
abbrev pub Walked : Support → (bound : ℕ) → List Node → Option Reason → (number : ℕ) → (waiting : List (List Decision)) → Type 0
Walked s bound taken (Some reason) number waiting = FirstNodeFails s bound 1 taken ([] ∷ []) reason
Walked s bound taken None number waiting = NodesStand s bound taken ([] ∷ []) × (number ≡ length taken) × (waiting ≡ waiting_for taken ([] ∷ []))

abbrev pub HasWalked : Support → (bound : ℕ) → Checker → List Node → Type 0
HasWalked s bound checker taken = Walked s bound taken checker.reason checker.taken (waits checker.path)

-- after all nodes: that each is as it should be, or the first reason
abbrev pub TreeSays : Support → (bound : ℕ) → List Node → Option Reason → Type 0
TreeSays s bound nodes None = NodesStand s bound nodes ([] ∷ [])
TreeSays s bound nodes (Some reason) = FirstNodeFails s bound 1 nodes ([] ∷ []) reason

-- the nodes fill so many subtrees, and no more: before each node one is still to come, and after the last none
abbrev pub Fills : List Node → (subtrees : ℕ) → Type 0
Fills [] subtrees = subtrees ≡ 0
Fills (node ∷ nodes) subtrees = (1 ≤ subtrees) × Fills nodes (open_after subtrees node)

-- what a checker keeps is right
pub record IsChecker (s : Support) (checker : Checker) : Type 0 where
  pub leaves : AreLeaves s checker.leaves
  pub path : IsPath checker.path
  pub path_in : IsPathIn s checker.path
