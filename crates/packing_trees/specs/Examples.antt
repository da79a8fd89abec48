-- Small data for the examples beside the tests. No public contract speaks of this.
use Rattle.std.specs.Prelude.{ℕ, List, [], ◌∷◌}
use Rattle.carp_base.specs.declared.edge.Edge.{Edge}
use Rattle.carp_base.specs.Problem.{Problem}
use Rattle.packing_trees.specs.declared.node.PackNode.{PackNode}
use Rattle.packing_trees.specs.Trees.{PackTree, pair, share, settled}
use Rattle.packing_trees.specs.Reasons.{Claim}

abbrev pub two : Edge
two = record { u = 1; v = 2; cost = 5; demand = 2; service = 5 }

-- three required edges of demand 2, and vehicles that carry 3, 4 or 5
abbrev pub carrying : ℕ → Problem
carrying capacity = record { vertices = 2; depot = 1; capacity = capacity; required = 3; edges = two ∷ two ∷ two ∷ [] }

-- no edges, and nothing that is required
abbrev pub no_edges : Problem
no_edges = record { vertices = 1; depot = 1; capacity = 3; required = 0; edges = [] }

-- a pair that is split, with a share of size 2 where its edges are together, and the other leaf where they are apart
abbrev pub split_pair : PackTree
split_pair = pair 1 2 (share 2) settled

-- the groups of three edges, their number, a bound, and these nodes
abbrev pub claim : List ℕ → (count bound : ℕ) → List PackNode → Claim
claim groups count bound nodes = record { groups = groups; count = count; bound = bound; nodes = nodes }
