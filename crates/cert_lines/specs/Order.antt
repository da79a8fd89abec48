-- Which line may follow which.
use Rattle.std.specs.Prelude.{ℕ, zero, suc, ◌+◌, ◌-◌, ◌==◌, ◌||◌, Bool, true, false, List, [], ◌∷◌, if◌then◌else◌}
use Rattle.branch_rules.specs.declared.node.Node.{Node}
use Rattle.branch_rules.specs.declared.node.Node.TheVariants.{Pair, Cut, Price, Void, Fixed}
use Rattle.cert_lines.specs.declared.next.Next.{Next}
use Rattle.cert_lines.specs.declared.next.Next.TheVariants as stands
use Rattle.cert_lines.specs.Lines.{Line, version, counts, cost, bound, tours, tour, shores, shore, sets, prices, weights, bonds, nodes, node, end}

-- the lines that were read, with the latest one at the head: what stood before a line is then the rest of the list
abbrev pub LatestFirst : Type 0
LatestFirst = List Line

-- the version that the first line states
abbrev pub version_of : LatestFirst → ℕ
version_of [] = 0
version_of (version n ∷ said) = n
version_of (_ ∷ said) = version_of said

-- a tour stands next if tours are still to come, and else the number of shores
abbrev pub tours_to_come : ℕ → Next
tours_to_come zero = stands.Shores
tours_to_come (suc n) = stands.Tour (suc n)

abbrev pub shores_to_come : ℕ → Next
shores_to_come zero = stands.Sets
shores_to_come (suc n) = stands.Shore (suc n)

abbrev pub sets_to_come : ℕ → Next
sets_to_come zero = stands.Nodes
sets_to_come (suc n) = stands.Prices (suc n)

abbrev pub nodes_to_come : (left subtrees : ℕ) → Next
nodes_to_come zero subtrees = stands.End
nodes_to_come (suc n) subtrees = stands.Node (suc n) subtrees

-- how many lines of a kind are still to come
abbrev pub left_of : Next → ℕ
left_of (stands.Tour left) = left
left_of (stands.Shore left) = left
left_of (stands.Prices left) = left
left_of (stands.Weights left) = left
left_of (stands.Bonds left) = left
left_of (stands.Node left subtrees) = left
left_of _ = 0

-- how many whole subtrees are still to come
abbrev pub open_of : Next → ℕ
open_of (stands.Node left subtrees) = subtrees
open_of _ = 0

-- how many subtrees a node has
abbrev pub children : Node → ℕ
children (Pair a b) = 2
children (Cut border k) = 2
children (Price set) = 0
children Void = 0
children Fixed = 0

-- how many whole subtrees are still to come after a node
abbrev pub open_after : ℕ → Node → ℕ
open_after subtrees x = subtrees - 1 + children x

-- what stands after a line, in a text of this version: only in version 4 the weights of a set are followed by its groups
abbrev pub after : ℕ → Next → Line → Next
after v next (version n) = if n == 1 then stands.Cost else stands.Counts
after v next (counts c) = stands.Cost
after v next (cost n) = stands.Bound
after v next (bound n) = stands.Tours
after v next (tours n) = tours_to_come n
after v next (tour n steps) = tours_to_come (left_of next - 1)
after v next (shores n) = shores_to_come n
after v next (shore n vertices) = shores_to_come (left_of next - 1)
after v next (sets n) = sets_to_come n
after v next (prices unit n services) = stands.Weights (left_of next)
after v next (weights n items) = if v == 4 then stands.Bonds (left_of next) else sets_to_come (left_of next - 1)
after v next (bonds n groups rest) = sets_to_come (left_of next - 1)
after v next (nodes n) = nodes_to_come n 1
after v next (node x) = nodes_to_come (left_of next - 1) (open_after (open_of next) x)
after v next end = stands.Nothing

-- what stands after the lines that were read
abbrev pub next_of : LatestFirst → Next
next_of [] = stands.Version
next_of (line ∷ said) = after (version_of said) (next_of said) line

-- the line is of the kind that stands next; the version is 1, 2 or 4
abbrev pub follows : Next → Line → Bool
follows stands.Version (version n) = (n == 1) || (n == 2) || (n == 4)
follows stands.Counts (counts c) = true
follows stands.Cost (cost n) = true
follows stands.Bound (bound n) = true
follows stands.Tours (tours n) = true
follows (stands.Tour left) (tour n steps) = true
follows stands.Shores (shores n) = true
follows (stands.Shore left) (shore n vertices) = true
follows stands.Sets (sets n) = true
follows (stands.Prices left) (prices unit n services) = true
follows (stands.Weights left) (weights n items) = true
follows (stands.Bonds left) (bonds n groups rest) = true
follows stands.Nodes (nodes n) = true
follows (stands.Node left subtrees) (node x) = true
follows stands.End end = true
follows _ _ = false
