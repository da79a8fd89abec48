-- The way from the root to the node that is read next, and the branches that wait besides.
use Rattle.std.specs.Prelude.{◌≡◌, ◌≤◌, List, [], ◌∷◌, ◌++◌, length, false, Option, Some, None, IfSome, if◌then◌else◌}
use Rattle.std.specs.List.{All}
use Rattle.decision_chains.specs.declared.decision.Decision.{Decision}
use Rattle.decision_chains.specs.Pairs.{HasPairWithin, ArePairsIn}
use Rattle.branch_rules.specs.Limits.{HasShoreOf, AreShoresIn, IsFineDecision}
use Rattle.branch_rules.specs.Trees.{Support}
use Rattle.branch_rules.specs.declared.node.Node.{Node}
use Rattle.branch_rules.specs.declared.node.Node.TheVariants as nodes
use Rattle.branch_rules.specs.declared.path.Path.{Path}

-- the decisions on the way to the node that is read next
abbrev pub branch_of : Path → List Decision
branch_of path = path.branch

-- a node is still to come
abbrev pub IsOpen : Path → Type 0
IsOpen path = path.whole ≡ false

-- for decisions taken from a branch on (before), each with that of the second child if this is still to be read: the branches of these
-- second children, the deepest first, and then those that wait besides (later)
abbrev pub seconds_wait : (taken : List Decision) → List (Option Decision) → (before : List Decision) → (later : List (List Decision)) → List (List Decision)
seconds_wait [] seconds before later = later
seconds_wait (d ∷ taken) [] before later = later
seconds_wait (d ∷ taken) (None ∷ seconds) before later = seconds_wait taken seconds (before ++ d ∷ []) later
seconds_wait (d ∷ taken) (Some e ∷ seconds) before later = seconds_wait taken seconds (before ++ d ∷ []) ((before ++ e ∷ []) ∷ later)

-- the branches of the second children that are still to be read
abbrev pub seconds_of : Path → List (List Decision)
seconds_of path = seconds_wait path.branch path.seconds.items [] []

-- the branches that wait: that of the next node, and those of the second children that are still to be read; none if the tree is whole
abbrev pub waits : Path → List (List Decision)
waits path = if path.whole then [] else path.branch ∷ seconds_of path

-- a decision on required edges, or on a shore that belongs to the instance
pub record IsDecisionIn (s : Support) (d : Decision) : Type 0 where
  pub pair : HasPairWithin s.problem.required d
  pub shore : HasShoreOf s.problem s.pool d

-- the decisions of the path are on required edges and on shores that belong to the instance
pub record IsPathIn (s : Support) (path : Path) : Type 0 where
  pub pairs : ArePairsIn s.problem path.branch
  pub shores : AreShoresIn s.problem s.pool path.branch
  pub seconds : All (λ second. IfSome second (IsDecisionIn s)) path.seconds.items

-- for each decision of the branch it is known whether a second child is still to be read
pub record IsPath (path : Path) : Type 0 where
  pub even : length path.branch ≡ length path.seconds.items
  pub fine : All (λ second. IfSome second IsFineDecision) path.seconds.items

-- the number of a cut is at most 1,000,000
abbrev pub IsFineSplit : Node → Type 0
IsFineSplit (nodes.Pair a b) = Unit {0}
IsFineSplit (nodes.Cut border k) = k ≤ 1000000
IsFineSplit (nodes.Price set) = Unit {0}
IsFineSplit nodes.Void = Unit {0}
IsFineSplit nodes.Fixed = Unit {0}
