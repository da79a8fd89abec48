-- What the tests know of their small data. No public contract speaks of this.
use Rattle.std.specs.Prelude.{◌≡◌, ℕ, ◌+◌, ◌*◌, ◌≤◌, pos, ◌≤ℤ◌, List, [], ◌∷◌, length, drop}
use Rattle.std.specs.List.{All}
use Rattle.carp_base.specs.Problem.{Problem, edge_at}
use Rattle.branch_rules.specs.Limits.{IsNodeIn}
use Rattle.branch_rules.specs.Prices.{Prices, price_in}
use Rattle.branch_rules.specs.Trees.{Tree, Support, preorder}
use Rattle.branch_rules.specs.declared.node.Node.{Node}
use Rattle.branch_rules.specs.declared.node.Node.TheVariants as nodes
use Rattle.grown_trees.specs.Places.{IsFineNode}
use Rattle.branch_rules.specs.Paths.{IsPath, IsPathIn, waits}
use Rattle.branch_rules.specs.declared.path.Path.{Path}
use Rattle.tree_transfer.specs.Bounding.{NodesWouldShow}

-- a node of an instance, as a tree may have it
pub record IsNodeOf (p : Problem) (pool : List (List ℕ)) (node : Node) : Type 0 where
  pub inside : IsNodeIn p pool node
  pub fine : IsFineNode node

-- the nodes are those of a tree
pub record IsPreorder (nodes : List Node) : Type 0 where
  pub tree : Tree
  pub is : preorder tree ≡ nodes

-- a price is not negative, and no higher than what the service costs
pub record IsPaidFor (p : Problem) (set : Prices) (e : ℕ) : Type 0 where
  pub some : pos 0 ≤ℤ price_in set e
  pub most : price_in set e ≤ℤ pos (set.unit * (edge_at p e).service)

-- all prices are so, and there are no weights on shores or groups
pub record IsLight (p : Problem) (set : Prices) : Type 0 where
  pub some_unit : 1 ≤ set.unit
  pub no_weights : length set.weights ≡ 0
  pub no_groups : length set.groups ≡ 0
  pub one_each : length set.services ≡ p.required
  pub paid : (e : ℕ) → 1 ≤ e → e ≤ p.required → IsPaidFor p set e

-- the nodes would show 0 if those from a place on would
pub record IsTestedTo (c : Support) (nodes : List Node) (place : ℕ) (path : Path) : Type 0 where
  pub is_path : IsPath path
  pub path_in : IsPathIn c path
  pub back : NodesWouldShow c 0 (drop place nodes) (waits path) → NodesWouldShow c 0 nodes ([] ∷ [])

-- how many whole trees there are with one more node in front of so many
abbrev pub Gathers : (trees : ℕ) → Node → (more : ℕ) → Type 0
Gathers trees (nodes.Pair a b) more = (2 ≤ trees) × (trees ≡ more + 1)
Gathers trees (nodes.Cut shore k) more = (2 ≤ trees) × (trees ≡ more + 1)
Gathers trees (nodes.Price set) more = more ≡ trees + 1
Gathers trees nodes.Void more = more ≡ trees + 1
Gathers trees nodes.Fixed more = more ≡ trees + 1

-- each set is light
abbrev pub AreLight : Problem → List Prices → Type 0
AreLight p sets = All (IsLight p) sets
