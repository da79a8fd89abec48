-- The nodes of a tree, noted one after another. No public contract speaks of this.
use Rattle.std.specs.Prelude.{◌≡◌, ℕ, List, [], ◌∷◌, ◌++◌, drop}
use Rattle.decision_chains.specs.declared.decision.Decision.{Decision}
use Rattle.branch_rules.specs.Trees.{Support}
use Rattle.branch_rules.specs.declared.node.Node.{Node}
use Rattle.grown_trees.specs.Growth.{AreNoted}
use Rattle.grown_trees.specs.Stands.{Stand}
use Rattle.grown_trees.specs.declared.growing.GrowingNode.{GrowingNode}
use Rattle.branch_rules.specs.Paths.{IsPath, IsPathIn, waits}
use Rattle.branch_rules.specs.Waiting.{waiting_after}
use Rattle.branch_rules.specs.declared.path.Path.{Path}
use Rattle.tree_transfer.specs.Bounding.{NodesWouldShow}

-- nodes, each with the branch that waits for it
abbrev pub stands_of : List Node → List (List Decision) → List Stand
stands_of [] waiting = []
stands_of (node ∷ rest) [] = []
stands_of (node ∷ rest) (branch ∷ waiting) = record { branch = branch; node = node } ∷ stands_of rest (waiting_after branch node waiting)

-- the nodes before a place are noted; those from there on would show some bound under the branches that wait
pub record IsNoting (c : Support) (all : List Node) (place : ℕ) (waiting : List (List Decision)) (entries : List GrowingNode) : Type 0 where
  pub some : (bound : ℕ) × NodesWouldShow c bound (drop place all) waiting
  pub before : List Stand
  pub noted : AreNoted c before entries
  pub stands_are : stands_of all ([] ∷ []) ≡ before ++ stands_of (drop place all) waiting

-- the same, with the path to the place
pub record NotesAt (c : Support) (all : List Node) (place : ℕ) (path : Path) (entries : List GrowingNode) : Type 0 where
  pub is_path : IsPath path
  pub path_in : IsPathIn c path
  pub noting : IsNoting c all place (waits path) entries

-- all nodes are noted
abbrev pub AreAllNoted : Support → List Node → List GrowingNode → Type 0
AreAllNoted c all entries = AreNoted c (stands_of all ([] ∷ [])) entries
