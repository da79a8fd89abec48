-- What a step of a search does.
use Rattle.std.specs.Prelude.{◌≡◌, ℕ, ◌+◌, ◌<◌, ◌≤◌, ◌⊎◌, Bool, true, false, List, [], ◌∷◌, ◌++◌, take, drop, map, length, slice_index_or}
use Rattle.std.specs.List.{All}
use Rattle.carp_base.specs.Problem.{Problem}
use Rattle.cut_pool.specs.Pools.{IsGrown}
use Rattle.decision_chains.specs.declared.decision.Decision.{Decision}
use Rattle.branch_rules.specs.Decisions.{IsFixed, IsVoid}
use Rattle.branch_rules.specs.Prices.{Prices}
use Rattle.branch_rules.specs.Trees.{Tree, preorder, PriceShows}
use Rattle.branch_rules.specs.declared.node.Node.{Node}
use Rattle.branch_rules.specs.declared.node.Node.TheVariants as nodes
use Rattle.task_tours.specs.Shorts.{IsShortPlan}
use Rattle.tight_prices.specs.Tight.{IsTight}
use Rattle.dual_master.specs.Raising.{HasShortGroups, IsNoLower}
use Rattle.grown_trees.specs.Growth.{IsLeastOpen, turns_in}
use Rattle.grown_trees.specs.Places.{IsLeaf, branch_to}
use Rattle.grown_trees.specs.declared.growing.GrowingNode.{GrowingNode}
use Rattle.branch_tree.specs.declared.search.Turn.{Turn}
use Rattle.branch_tree.specs.declared.search.Turn.TheVariants.{Done, Closed, Split}
use Rattle.branch_tree.specs.Searches.{State, set_in, support_in}

-- each leaf is closed: it shows the best plan's cost by itself
abbrev pub AreClosed : State → Type 0
AreClosed s = All (λ entry. s.cost ≤ entry.shows) s.nodes

-- the tree, the price sets, the best plan and the fraction that the price leaves reach are as before; there may be more shores
pub record IsAsBefore (before after : State) : Type 0 where
  pub grown : IsGrown before.pool after.pool
  pub sets : after.sets ≡ before.sets
  pub nodes : after.nodes ≡ before.nodes
  pub plan : after.plan ≡ before.plan
  pub cost : after.cost ≡ before.cost
  pub done : after.done ≡ before.done
  pub base : after.base ≡ before.base

-- the first leaf that showed least, and not the best plan's cost, gave way to other nodes; its branch is the decisions on the way to it
pub record IsTaken (before after : State) (branch : List Decision) (old : GrowingNode) (news : List GrowingNode) : Type 0 where
  pub place : ℕ
  pub least : IsLeastOpen before.cost before.nodes place
  pub was : old ≡ slice_index_or before.nodes place old
  pub leaf : IsLeaf old.node
  pub tree : Tree
  pub of_nodes : preorder tree ≡ map (λ entry. entry.node) before.nodes
  pub way : branch ≡ branch_to [] tree place
  pub nodes : after.nodes ≡ take place before.nodes ++ (news ++ drop (place + 1) before.nodes)

-- One price set was added. It is tight under the decisions on the way to the leaf and the shores of the step's beginning, and its value,
-- divided by its denominator, is no less there than that of the set that the leaf named. If that set has short groups, so has it.
pub record HasNewSet (p : Problem) (before after : State) (branch : List Decision) (old : GrowingNode) : Type 0 where
  pub set : Prices
  pub added : after.sets ≡ before.sets ++ set ∷ []
  pub tight : IsTight p after.pool (length before.pool) branch set
  pub number : ℕ
  pub named : old.node ≡ nodes.Price number
  pub no_lower : IsNoLower p branch after.pool (set_in before.sets number) after.pool set
  pub short_groups : HasShortGroups (set_in before.sets number) → HasShortGroups set

-- What closes a leaf, by its new node: a void or a fixed branch, with the price sets as they were; or one that is neither, and a new set,
-- which the leaf names. The best plan is another one only if a fixed leaf shows its cost, which is less than before; it is short then.
abbrev pub IsClosedBy : Problem → (before after : State) → List Decision → (old leaf : GrowingNode) → Node → Type 0
IsClosedBy p before after branch old leaf (nodes.Pair a b) = ⊥
IsClosedBy p before after branch old leaf (nodes.Cut shore k) = ⊥
IsClosedBy p before after branch old leaf (nodes.Price set) =
    ¬ (IsVoid p after.pool branch) × ¬ (IsFixed p after.pool branch) × (set ≡ length after.sets) × HasNewSet p before after branch old × (after.plan ≡ before.plan)
IsClosedBy p before after branch old leaf nodes.Void = IsVoid p after.pool branch × (after.sets ≡ before.sets) × (after.plan ≡ before.plan)
IsClosedBy p before after branch old leaf nodes.Fixed =
    IsFixed p after.pool branch × (after.sets ≡ before.sets) × ((after.plan ≡ before.plan) ⊎ (IsShortPlan p after.plan × (after.cost ≡ leaf.shows) × (after.cost < before.cost)))

-- a leaf was closed: another leaf in its place shows the best plan's cost
pub record IsClosing (p : Problem) (before after : State) : Type 0 where
  pub branch : List Decision
  pub old : GrowingNode
  pub leaf : GrowingNode
  pub taken : IsTaken before after branch old (leaf ∷ [])
  pub is_leaf : IsLeaf leaf.node
  pub closed : after.cost ≤ leaf.shows
  pub by : IsClosedBy p before after branch old leaf leaf.node
  pub no_dearer : after.cost ≤ before.cost

-- the number of a cut is at most 999
abbrev pub IsShortCut : Node → Type 0
IsShortCut (nodes.Pair a b) = Unit {0}
IsShortCut (nodes.Cut shore k) = k ≤ 999
IsShortCut (nodes.Price set) = Unit {0}
IsShortCut nodes.Void = Unit {0}
IsShortCut nodes.Fixed = Unit {0}

-- A leaf was split, which was neither void nor fixed; both children carry one price set. While fewer than 256 are held it is a new one,
-- tight where the leaf was and worth no less, and it does not close the leaf; else it is the set of the leaf.
pub record IsSplitting (p : Problem) (before after : State) : Type 0 where
  pub branch : List Decision
  pub old : GrowingNode
  pub inner : GrowingNode
  pub first : GrowingNode
  pub second : GrowingNode
  pub taken : IsTaken before after branch old (inner ∷ first ∷ second ∷ [])
  pub short : IsShortCut inner.node
  pub not_void : ¬ (IsVoid p after.pool branch)
  pub not_fixed : ¬ (IsFixed p after.pool branch)
  pub set : ℕ
  pub first_set : first.node ≡ nodes.Price set
  pub second_set : second.node ≡ nodes.Price set
  pub new_set : length before.sets < 256 → (set ≡ length after.sets) × HasNewSet p before after branch old × ¬ (PriceShows (support_in p after) branch after.cost set)
  pub old_set : length before.sets ≡ 256 → (after.sets ≡ before.sets) × (old.node ≡ nodes.Price set)
  pub plan : after.plan ≡ before.plan
  pub cost : after.cost ≡ before.cost

-- what a step did, by its answer
abbrev pub Does : Problem → State → State → Turn → Type 0
Does p before after Done = AreClosed before × IsAsBefore before after
Does p before after Closed = IsClosing p before after
Does p before after Split = IsSplitting p before after

-- a step leaves more turns behind it, unless there was nothing to do; shores are only added, and the price leaves reach the same fraction
pub record IsStep (p : Problem) (before after : State) (turn : Turn) : Type 0 where
  pub does : Does p before after turn
  pub grown : IsGrown before.pool after.pool
  pub more_done : AreClosed before ⊎ (before.done < after.done)
  pub base : after.base ≡ before.base

-- What became of a plan that the program of a leaf showed, by the answer: it is the best plan, short and cheaper than the one before; or the best
-- plan is as before.
abbrev pub HasTaken : Problem → State → State → Bool → Type 0
HasTaken p before after true = IsShortPlan p after.plan × (after.cost < before.cost)
HasTaken p before after false = (after.plan ≡ before.plan) × (after.cost ≡ before.cost)

-- the shores, the price sets, the tree, its bound at the beginning and the fraction that its price leaves reach are as before, and the turns are counted for the cost of the best plan
pub record IsOffered (p : Problem) (before after : State) (taken : Bool) : Type 0 where
  pub pool : after.pool ≡ before.pool
  pub sets : after.sets ≡ before.sets
  pub nodes : after.nodes ≡ before.nodes
  pub least : after.least ≡ before.least
  pub base : after.base ≡ before.base
  pub plan : HasTaken p before after taken
  pub done : after.done ≡ turns_in after.cost before.nodes
  pub no_fewer : before.done ≤ after.done
