-- Which price sets are named, set by set. No public contract speaks of this.
use Rattle.std.specs.Prelude.{◌≡◌, ◌↔◌, ℕ, zero, suc, ◌+◌, ◌<◌, Bool, true, false, IsTrue, List, map, filter, zip, take, length, slice_index, slice_index_or, slice_set, count_by, EachIndex}
use Rattle.branch_rules.specs.Prices.{Prices}
use Rattle.branch_rules.specs.declared.node.Node.{Node}
use Rattle.branch_rules.specs.declared.node.Node.TheVariants as nodes
use Rattle.grown_trees.specs.declared.growing.GrowingNode.{GrowingNode}
use Rattle.tree_transfer.specs.Named.{IsNamed}

-- a mark for each set, which is true exactly if a price leaf among the nodes names the set
pub record AreMarked (entries : List GrowingNode) (sets : ℕ) (marks : List Bool) : Type 0 where
  pub one_each : length marks ≡ sets
  pub marked : (place : ℕ) → place < sets → IsTrue (slice_index_or marks place false) ↔ IsNamed entries (place + 1)

-- the marks with that of the set that a node names
abbrev pub marked_by : Node → List Bool → List Bool
marked_by (nodes.Pair a b) marks = marks
marked_by (nodes.Cut shore k) marks = marks
marked_by (nodes.Price zero) marks = marks
marked_by (nodes.Price (suc place)) marks = slice_set marks place true
marked_by nodes.Void marks = marks
marked_by nodes.Fixed marks = marks

-- how many of the first marks are true
abbrev pub marked_to : List Bool → (place : ℕ) → ℕ
marked_to marks place = count_by (λ mark. mark) (take place marks)

-- for each mark how many are true up to it
pub record AreNumbers (marks : List Bool) (numbers : List ℕ) : Type 0 where
  pub one_each : length numbers ≡ length marks
  pub counted : EachIndex numbers (λ place. slice_index numbers place ≡ marked_to marks (place + 1))

-- the sets that are marked
abbrev pub marked_sets : List Bool → List Prices → List Prices
marked_sets marks sets = map (λ pair. pair.0) (filter (λ pair. pair.1) (zip sets marks))

-- the number in a list at the place of a number from 1; 0 is 0
abbrev pub number_in : List ℕ → ℕ → ℕ
number_in numbers zero = 0
number_in numbers (suc place) = slice_index numbers place
