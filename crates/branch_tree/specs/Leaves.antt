-- The leaf that a step takes, and what is put in its place. No public contract speaks of this.
use Rattle.std.specs.Prelude.{◌≡◌, ℕ, ◌+◌, ◌-◌, ◌≤◌, List, [], ◌∷◌, ◌++◌, take, drop, map, length, slice_index_or, if◌then◌else◌, nat_lt, Bool, Result, IfOk, OnErr}
use Rattle.std.specs.List.{All}
use Rattle.carp_base.specs.declared.fail.Memory.{Memory}
use Rattle.carp_base.specs.Problem.{Problem}
use Rattle.plan_model.specs.declared.step.Step.{Step}
use Rattle.decision_chains.specs.declared.decision.Decision.{Decision}
use Rattle.decision_chains.specs.Pairs.{ArePairsIn}
use Rattle.branch_rules.specs.Decisions.{cuts_of, rules_of, IsFixed, IsVoid}
use Rattle.branch_rules.specs.Laws.{FitsBranch}
use Rattle.branch_rules.specs.Limits.{IsNodeIn, IsShoreOf}
use Rattle.branch_rules.specs.Prices.{Prices, value_of}
use Rattle.branch_rules.specs.Trees.{IsLeanNode, first_of, preorder, second_of, Tree}
use Rattle.branch_rules.specs.declared.node.Node.{Node}
use Rattle.branch_rules.specs.declared.node.Node.TheVariants as nodes
use Rattle.route_pricing.specs.Tables.{IsRoom}
use Rattle.tight_prices.specs.Tight.{IsTight}
use Rattle.dual_master.specs.Raising.{HasShortGroups, HasGroupsFrom, IsNoLower}
use Rattle.grown_trees.specs.Growth.{IsLeastOpen, IsSpelledNode, turns_in}
use Rattle.grown_trees.specs.Places.{IsFineNode, branch_to}
use Rattle.grown_trees.specs.declared.growing.GrowingNode.{GrowingNode}
use Rattle.branch_tree.specs.declared.children.Children.{Children}
use Rattle.branch_tree.specs.declared.kinds.Kind.{Kind}
use Rattle.branch_tree.specs.declared.kinds.Kind.TheVariants.{Void, Fixed, Open}
use Rattle.branch_tree.specs.declared.search.Search.{Search}
use Rattle.branch_tree.specs.Searches.{HasGroupsInRange, IsSearch, State, set_in, state_of}
use Rattle.branch_tree.specs.declared.search.Turn.{Turn}
use Rattle.branch_tree.specs.declared.search.Turn.TheVariants.{Closed, Split}
use Rattle.branch_tree.specs.Steps.{IsAsBefore, IsOffered, IsShortCut, IsStep}
use Rattle.task_tours.specs.Shorts.{IsShortPlan}
use Rattle.branch_tree.specs.Splits.{IsInner}
use Rattle.grown_trees.specs.Values.{IsMostShown}

-- at the place stands the first leaf that shows least, which is not the best plan's cost, and these are the decisions on the way to it
pub record IsAtLeaf (s : State) (place : ℕ) (branch : List Decision) : Type 0 where
  pub least : IsLeastOpen s.cost s.nodes place
  pub way : (tree : Tree) → preorder tree ≡ map (λ entry. entry.node) s.nodes → branch ≡ branch_to [] tree place

-- what a branch is
abbrev pub IsOfKind : Problem → List (List ℕ) → List Decision → Kind → Type 0
IsOfKind p pool branch Void = IsVoid p pool branch
IsOfKind p pool branch Fixed = IsFixed p pool branch
IsOfKind p pool branch Open = ¬ (IsVoid p pool branch) × ¬ (IsFixed p pool branch)

-- a leaf names a price set, under a branch that is neither void nor fixed
pub record NamesSet (p : Problem) (s : State) (place : ℕ) (branch : List Decision) (set : ℕ) : Type 0 where
  pub at : IsAtLeaf s place branch
  pub not_void : ¬ (IsVoid p s.pool branch)
  pub not_fixed : ¬ (IsFixed p s.pool branch)
  pub named : (other : GrowingNode) → (slice_index_or s.nodes place other).node ≡ nodes.Price set

-- A price set that may stand at such a leaf: it fits there, its shores are in the pool and belong to the instance, the edges of its groups
-- are in range, and few if those of the leaf's set are, and its value, divided by its denominator, is no less than that of the leaf's set.
pub record MayStand (p : Problem) (s : State) (branch : List Decision) (number : ℕ) (set : Prices) : Type 0 where
  pub some_unit : 1 ≤ set.unit
  pub from_unit : 1 ≤ (set_in s.sets number).unit
  pub fits : FitsBranch p s.pool branch set
  pub shores : All (λ w. IsShoreOf p s.pool w.shore) set.weights
  pub groups : HasGroupsInRange set
  pub short_groups : HasShortGroups (set_in s.sets number) → HasShortGroups set
  pub no_lower : IsNoLower p branch s.pool (set_in s.sets number) s.pool set

-- the set of a number may be raised under a branch
pub record MayBegin (p : Problem) (pool : List (List ℕ)) (branch : List Decision) (sets : List Prices) (number : ℕ) : Type 0 where
  pub from_one : 1 ≤ number
  pub to_last : number ≤ length sets
  pub pairs : ArePairsIn p branch
  pub fits : FitsBranch p pool branch (set_in sets number)
  pub shores : All (λ w. IsShoreOf p pool w.shore) (set_in sets number).weights
  pub groups : HasGroupsInRange (set_in sets number)

-- a set that is tight under a branch, from the set of a number, after shores were added to the pool; its groups are those of that set, or
-- groups of the instance, and has short groups if that set has
pub record IsRaisedFrom (p : Problem) (pool : List (List ℕ)) (branch : List Decision) (sets : List Prices) (number : ℕ) (after : List (List ℕ)) (set : Prices) : Type 0 where
  pub from_unit : 1 ≤ (set_in sets number).unit
  pub tight : IsTight p after (length pool) branch set
  pub shores : All (λ w. IsShoreOf p after w.shore) set.weights
  pub groups : HasGroupsFrom p (set_in sets number) set
  pub short_groups : HasShortGroups (set_in sets number) → HasShortGroups set
  pub no_lower : IsNoLower p branch pool (set_in sets number) after set

-- what a set shows under the decisions of both children of a node
pub record AreShown (p : Problem) (pool : List (List ℕ)) (branch : List Decision) (set : Prices) (node : Node) (c : Children) : Type 0 where
  pub first : IsMostShown set.unit (value_of (rules_of p pool (branch ++ first_of node ∷ [])) set) c.first
  pub second : IsMostShown set.unit (value_of (rules_of p pool (branch ++ second_of node ∷ [])) set) c.second

-- an inner node that may stand under a branch in a lean tree
pub record IsSplitNode (p : Problem) (pool : List (List ℕ)) (branch : List Decision) (node : Node) : Type 0 where
  pub inner : IsInner node
  pub inside : IsNodeIn p pool node
  pub fine : IsFineNode node
  pub spelled : IsSpelledNode 0 node
  pub lean : IsLeanNode p pool branch (4 - cuts_of branch) node
  pub short : IsShortCut node

-- the instance, the distances, the table, the budget, the bound of the beginning and the room for nodes are as before, and the tree has no
-- more nodes than that, if it had no more before
pub record IsFramed (before after : Search) : Type 0 where
  pub net : after.net ≡ before.net
  pub dist : after.dist ≡ before.dist
  pub table : after.table ≡ before.table
  pub turns : after.turns ≡ before.turns
  pub least : after.least ≡ before.least
  pub room : after.tree.room ≡ before.tree.room
  pub few : length before.tree.nodes ≤ before.tree.room → length after.tree.nodes ≤ after.tree.room

-- so they are, except the table, which is one for the instance
pub record IsRepriced (p : Problem) (before after : Search) : Type 0 where
  pub net : after.net ≡ before.net
  pub dist : after.dist ≡ before.dist
  pub table : IsRoom p after.table
  pub turns : after.turns ≡ before.turns
  pub least : after.least ≡ before.least
  pub room : after.tree.room ≡ before.tree.room
  pub few : length before.tree.nodes ≤ before.tree.room → length after.tree.nodes ≤ after.tree.room

-- a search with another pool
abbrev pub with_pool : State → List (List ℕ) → State
with_pool s pool = record s { pool = pool }

-- one more price set
abbrev pub with_set : State → Prices → State
with_set s set = record s { sets = s.sets ++ set ∷ [] }

-- other nodes in place of the one at a place; the turns are counted anew
abbrev pub with_news : State → ℕ → List GrowingNode → State
with_news s place news =
    let entries = take place s.nodes ++ (news ++ drop (place + 1) s.nodes) in
    record s { nodes = entries; done = turns_in s.cost entries }

-- the cheaper one of the best plan and another one
abbrev pub with_cheaper : State → List (List Step) → ℕ → State
with_cheaper s plan cost = if nat_lt cost s.cost then record s { plan = plan; cost = cost } else s

-- another best plan; the turns are counted anew
abbrev pub with_plan : State → List (List Step) → ℕ → State
with_plan s plan cost = record s { plan = plan; cost = cost; done = turns_in cost s.nodes }

-- an inner node, and two price leaves of one set
abbrev pub split_nodes : Node → ℕ → Children → List GrowingNode
split_nodes node set c =
    record { node = node; shows = 18446744073709551615 } ∷ record { node = nodes.Price set; shows = c.first } ∷ record { node = nodes.Price set; shows = c.second } ∷ []

-- a node to split by, and what a set shows under the decisions of both children
pub record IsSplitBy (p : Problem) (pool : List (List ℕ)) (branch : List Decision) (set : Prices) (node : Node) (c : Children) : Type 0 where
  pub node_in : IsSplitNode p pool branch node
  pub shown : AreShown p pool branch set node c

-- what a step leaves, whether there is memory for it or not
pub record IsTurn (p : Problem) (before after : Search) (answer : Result Turn Memory) : Type 0 where
  pub search : IsSearch p after
  pub turns : after.turns ≡ before.turns
  pub least : after.least ≡ before.least
  pub step : IfOk answer (IsStep p (state_of before) (state_of after))
  pub err : OnErr answer (IsAsBefore (state_of before) (state_of after))

-- a set was added, a leaf names it, and shows so much
pub record HasClosed (before : State) (place : ℕ) (set : Prices) (shown : ℕ) (after : State) (turn : Turn) : Type 0 where
  pub closed : turn ≡ Closed
  pub state : after ≡ with_news (with_set before set) place (record { node = nodes.Price (length before.sets + 1); shows = shown } ∷ [])

-- a leaf was split into two that carry a set
pub record HasSplit (p : Problem) (before : State) (place : ℕ) (branch : List Decision) (set : Prices) (number : ℕ) (after : State) (turn : Turn) : Type 0 where
  pub split : turn ≡ Split
  pub node : Node
  pub children : Children
  pub by : IsSplitBy p before.pool branch set node children
  pub state : after ≡ with_news before place (split_nodes node number children)

-- what an offer of a plan leaves, whether there is memory for it or not
pub record IsOffer (p : Problem) (before after : Search) (answer : Result Bool Memory) : Type 0 where
  pub search : IsSearch p after
  pub turns : after.turns ≡ before.turns
  pub least : after.least ≡ before.least
  pub short : IsShortPlan p before.best → IsShortPlan p after.best
  pub offered : IfOk answer (IsOffered p (state_of before) (state_of after))
  pub err : OnErr answer (state_of after ≡ state_of before)
