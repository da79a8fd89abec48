-- The price sets that a tree names, and the tree with their new numbers.
use Rattle.std.specs.Prelude.{◌≡◌, ℕ, ◌-◌, ◌<◌, ◌≤◌, List, map, length, slice_index_or, Contains}
use Rattle.branch_rules.specs.Prices.{Prices}
use Rattle.branch_rules.specs.declared.node.Node.{Node}
use Rattle.branch_rules.specs.declared.node.Node.TheVariants as nodes
use Rattle.grown_trees.specs.declared.growing.GrowingNode.{GrowingNode}

-- a price leaf among the nodes names the set of this number
abbrev pub IsNamed : List GrowingNode → (set : ℕ) → Type 0
IsNamed entries set = Contains (map (λ entry. entry.node) entries) (nodes.Price set)

-- a node whose set has another number
abbrev pub renumbered : (number : ℕ → ℕ) → Node → Node
renumbered number (nodes.Pair a b) = nodes.Pair a b
renumbered number (nodes.Cut shore k) = nodes.Cut shore k
renumbered number (nodes.Price set) = nodes.Price (number set)
renumbered number nodes.Void = nodes.Void
renumbered number nodes.Fixed = nodes.Fixed

-- the same, of a node and what it shows
abbrev pub renumbered_entry : (number : ℕ → ℕ) → GrowingNode → GrowingNode
renumbered_entry number entry = record { node = renumbered number entry.node; shows = entry.shows }

-- The new price sets are the old ones that a price leaf names, in their order, and no other. Each node stays as it was, and each price leaf
-- names the set that it named, by its new number. Sets are numbered from 1.
pub record AreNamedSets (old new : List Prices) (before after : List GrowingNode) : Type 0 where
  pub number : ℕ → ℕ
  pub nodes : after ≡ map (renumbered_entry number) before
  pub from_one : (set : ℕ) → IsNamed before set → 1 ≤ number set
  pub in_range : (set : ℕ) → IsNamed before set → number set ≤ length new
  pub same : (set : ℕ) (other : Prices) → IsNamed before set → slice_index_or new (number set - 1) other ≡ slice_index_or old (set - 1) other
  pub in_order : (set later : ℕ) → IsNamed before set → IsNamed before later → set < later → number set < number later
  pub no_other : (k : ℕ) → 1 ≤ k → k ≤ length new → (set : ℕ) × IsNamed before set × (number set ≡ k)
