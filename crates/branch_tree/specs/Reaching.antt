-- What the price leaves of a search are worth, at each moment.
use Rattle.std.specs.Prelude.{◌≡◌, List, [], map}
use Rattle.std.specs.List.{All}
use Rattle.carp_base.specs.Problem.{Problem}
use Rattle.decision_chains.specs.declared.decision.Decision.{Decision}
use Rattle.branch_rules.specs.Decisions.{rules_of}
use Rattle.branch_rules.specs.Prices.{value_of}
use Rattle.branch_rules.specs.Trees.{Support, Tree, preorder, set_at}
use Rattle.branch_rules.specs.declared.node.Node.{Node}
use Rattle.branch_rules.specs.declared.node.Node.TheVariants as nodes
use Rattle.grown_trees.specs.Stands.{Stand, stands}
use Rattle.branch_tree.specs.Searches.{IsHeld, State, support_in}
use Rattle.branch_tree.specs.Values.{IsAtLeastFloors, ReachesFloors}

-- the set that a price leaf names has a value under the decisions on the way to it that, divided by its denominator, is at least each floor
abbrev pub NodeIsAtLeastFloors : Support → List Decision → Node → Type 0
NodeIsAtLeastFloors c branch (nodes.Pair a b) = Unit {0}
NodeIsAtLeastFloors c branch (nodes.Cut shore k) = Unit {0}
NodeIsAtLeastFloors c branch (nodes.Price set) =
    IsAtLeastFloors c.problem (record { unit = (set_at c set).unit; value = value_of (rules_of c.problem c.pool branch) (set_at c set) })
NodeIsAtLeastFloors c branch nodes.Void = Unit {0}
NodeIsAtLeastFloors c branch nodes.Fixed = Unit {0}

-- so has that of each price leaf of a tree
abbrev pub LeavesAreAtLeastFloors : Support → Tree → Type 0
LeavesAreAtLeastFloors c tree = All (λ (s : Stand). NodeIsAtLeastFloors c s.branch s.node) (stands [] tree)

-- If the base of a search reaches the floors, the set of each price leaf of the tree of its nodes is worth at least each floor. When a search
-- has just begun its base reaches the floors (`IsBegun`), and each step, one for which memory did not suffice, and each plan that is taken
-- keep the base (`IsStep`, `IsAsBefore`, `IsOffered`). So this is true at each moment of a search that began anew. A value is compared as
-- it is, and never rounded.
abbrev pub SearchesReachFloors : Type 0
SearchesReachFloors =
    (p : Problem) (s : State) → IsHeld p s → ReachesFloors p s.base →
    (tree : Tree) → preorder tree ≡ map (λ entry. entry.node) s.nodes → LeavesAreAtLeastFloors (support_in p s) tree
