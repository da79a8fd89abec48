-- How far a tree is carried over. No public contract speaks of this.
use Rattle.std.specs.Prelude.{◌≡◌, ℕ, ◌+◌, ◌≤◌, ◌<◌, List, [], ◌∷◌, ◌++◌, length, drop}
use Rattle.std.specs.List.{All, flat_map}
use Rattle.carp_base.specs.Problem.{Problem}
use Rattle.decision_chains.specs.declared.decision.Decision.{Decision}
use Rattle.decision_chains.specs.Exclusions.{Excluded}
use Rattle.branch_rules.specs.Decisions.{lower_of}
use Rattle.branch_rules.specs.Limits.{IsNodeIn}
use Rattle.branch_rules.specs.Trees.{Tree, NodeList, preorder}
use Rattle.branch_rules.specs.declared.node.Node.{Node}
use Rattle.branch_rules.specs.declared.node.Node.TheVariants as nodes
use Rattle.grown_trees.specs.Places.{IsFineNode}
use Rattle.branch_rules.specs.Paths.{IsPath, IsPathIn, waits}
use Rattle.branch_rules.specs.declared.path.Path.{Path}
use Rattle.tree_transfer.specs.Carried.{IsCarried}
use Rattle.tree_transfer.specs.Shown.{AreCarried}

-- the nodes of some trees, one tree after another
abbrev pub forest : List Tree → List Node
forest trees = flat_map preorder trees

-- a node gives way to its second child
abbrev pub GivesWay : Problem → List (List ℕ) → List Decision → Node → Type 0
GivesWay p pool branch (nodes.Pair a b) = Excluded p branch a b
GivesWay p pool branch (nodes.Cut shore k) = k < lower_of p pool branch shore
GivesWay p pool branch (nodes.Price set) = ⊥
GivesWay p pool branch nodes.Void = ⊥
GivesWay p pool branch nodes.Fixed = ⊥

-- so many trees stand in front of some other nodes
pub record IsForest (open_yet : ℕ) (all rest : List Node) : Type 0 where
  pub trees : List Tree
  pub many : length trees ≡ open_yet
  pub is : all ≡ forest trees ++ rest

-- of the subtree that begins at a place, so many subtrees are left at another place
abbrev pub IsLeftOf : List Node → (from place open_yet : ℕ) → Type 0
IsLeftOf all from place open_yet = (first : Tree) (rest : List Node) → drop from all ≡ preorder first ++ rest → IsForest open_yet (drop place all) rest

-- what stands behind the subtree that begins at a place stands at another place
abbrev pub LiesBehind : List Node → (from to : ℕ) → Type 0
LiesBehind all from to = (first : Tree) (rest : List Node) → drop from all ≡ preorder first ++ rest → drop to all ≡ rest

-- how many subtrees are open after a node
abbrev pub Opens : ℕ → Node → ℕ → Type 0
Opens before (nodes.Pair a b) after = after ≡ before + 1
Opens before (nodes.Cut shore k) after = after ≡ before + 1
Opens before (nodes.Price set) after = before ≡ after + 1
Opens before nodes.Void after = before ≡ after + 1
Opens before nodes.Fixed after = before ≡ after + 1

-- each of the new trees is carried over from an old one, under the branch that waits for it
abbrev pub AreCarriedOver : Problem → List (List ℕ) → (waiting : List (List Decision)) → (old new : List Tree) → Type 0
AreCarriedOver p pool [] [] [] = Unit {0}
AreCarriedOver p pool [] [] (u ∷ new) = ⊥
AreCarriedOver p pool [] (t ∷ old) new = ⊥
AreCarriedOver p pool (branch ∷ waiting) [] new = ⊥
AreCarriedOver p pool (branch ∷ waiting) (t ∷ old) [] = ⊥
AreCarriedOver p pool (branch ∷ waiting) (t ∷ old) (u ∷ new) = IsCarried p pool branch t u × AreCarriedOver p pool waiting old new

-- from a place on, trees are left; and whatever they become, with it the nodes so far are those of a tree that is carried over
pub record IsCarrying (p : Problem) (pool : List (List ℕ)) (all : List Node) (place : ℕ) (waiting : List (List Decision)) (new : List Node) : Type 0 where
  pub trees : List Tree
  pub left : drop place all ≡ forest trees
  pub even : length trees ≡ length waiting
  pub rest : (more : List Tree) → AreCarriedOver p pool waiting trees more → AreCarried p pool all (new ++ forest more)

-- the same, with the path to the place, and what is kept of the new nodes
pub record CarriesAt (p : Problem) (pool : List (List ℕ)) (all : List Node) (place : ℕ) (path : Path) (new : NodeList) : Type 0 where
  pub within : place ≤ length all
  pub is_path : IsPath path
  pub path_in : IsPathIn (record { problem = p; pool = pool; sets = [] }) path
  pub carrying : IsCarrying p pool all place (waits path) new.nodes
  pub inside : All (IsNodeIn p pool) new.nodes
  pub fine : All IsFineNode new.nodes
  pub few : length new.nodes ≤ place
  pub room : new.room ≡ length all
