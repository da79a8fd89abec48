-- What the parts of a check find, one after another. No public contract speaks of this.
use Rattle.std.specs.Prelude.{◌≡◌, ℕ, zero, suc, ◌+◌, ◌-◌, ◌<◌, ◌≤◌, Bool, true, false, Option, Some, None, List, [], ◌∷◌, ◌++◌, length, slice_index, slice_index_or}
use Rattle.std.specs.List.{All}
use Rattle.carp_base.specs.Problem.{Problem}
use Rattle.carp_base.specs.Packings.{IsGroup, IsPacking}
use Rattle.packing_trees.specs.declared.node.PackChoice.{PackChoice}
use Rattle.packing_trees.specs.declared.node.PackChoice.TheVariants as choices
use Rattle.packing_trees.specs.declared.node.PackNode.{PackNode}
use Rattle.packing_trees.specs.declared.node.PackNode.TheVariants.{Pair, Share, Apart}
use Rattle.packing_trees.specs.declared.reason.PackReason.{PackReason}
use Rattle.packing_trees.specs.declared.reason.PackReason.TheVariants.{GroupEmpty, Overload}
use Rattle.packing_trees.specs.Reasons.{Claim, AreWhole, FirstNodeFails, IsFirstPackReason, IsGoodPacking, NodeFails, NodeFits, NodeIsRight, branches_below}

-- a claim as its parts
abbrev pub claimed : List ℕ → (count bound : ℕ) → List PackNode → Claim
claimed groups count bound nodes = record { groups = groups; count = count; bound = bound; nodes = nodes }

-- all is right, or this is the first reason
abbrev pub PackSays : Problem → Claim → Option PackReason → Type 0
PackSays p c None = IsGoodPacking p c
PackSays p c (Some reason) = IsFirstPackReason p c reason

-- the groups are a packing, or this is the first reason, whatever the tree
abbrev pub GroupsSay : Problem → List ℕ → (count : ℕ) → Option PackReason → Type 0
GroupsSay p groups count None = IsPacking p groups count
GroupsSay p groups count (Some reason) = (bound : ℕ) (nodes : List PackNode) → IsFirstPackReason p (claimed groups count bound nodes) reason

-- the first of the edges from 1 to n whose number is none of a group
pub record IsFirstOutside (groups : List ℕ) (count e : ℕ) : Type 0 where
  pub from_one : 1 ≤ e
  pub in_range : e ≤ length groups
  pub outside : ¬ (IsGroup count (slice_index groups (e - 1)))
  pub before : (k : ℕ) → k + 1 < e → IsGroup count (slice_index groups k)

abbrev pub PlacesSay : List ℕ → (count : ℕ) → Option ℕ → Type 0
PlacesSay groups count None = (k : ℕ) → k < length groups → IsGroup count (slice_index groups k)
PlacesSay groups count (Some e) = IsFirstOutside groups count e

-- the first place from 1 on with nothing
pub record IsFirstNothing (loads : List ℕ) (g : ℕ) : Type 0 where
  pub from_one : 1 ≤ g
  pub in_range : g < length loads
  pub nothing : slice_index loads g ≡ 0
  pub before : (h : ℕ) → 1 ≤ h → h < g → 1 ≤ slice_index loads h

abbrev pub AllSomething : List ℕ → Type 0
AllSomething loads = (g : ℕ) → 1 ≤ g → g < length loads → 1 ≤ slice_index loads g

abbrev pub EmptySays : List ℕ → Option ℕ → Type 0
EmptySays loads None = AllSomething loads
EmptySays loads (Some g) = IsFirstNothing loads g

-- the first place from 1 on with too much
pub record IsFirstAbove (loads : List ℕ) (capacity g : ℕ) : Type 0 where
  pub from_one : 1 ≤ g
  pub in_range : g < length loads
  pub above : capacity < slice_index loads g
  pub before : (h : ℕ) → 1 ≤ h → h < g → slice_index loads h ≤ capacity

abbrev pub AllWithin : List ℕ → ℕ → Type 0
AllWithin loads capacity = (g : ℕ) → 1 ≤ g → g < length loads → slice_index loads g ≤ capacity

abbrev pub AboveSays : List ℕ → ℕ → Option ℕ → Type 0
AboveSays loads capacity None = AllWithin loads capacity
AboveSays loads capacity (Some g) = IsFirstAbove loads capacity g

abbrev pub LoadsSay : List ℕ → ℕ → Option PackReason → Type 0
LoadsSay loads capacity None = AllSomething loads × AllWithin loads capacity
LoadsSay loads capacity (Some (GroupEmpty g)) = IsFirstNothing loads g
LoadsSay loads capacity (Some (Overload g load)) = AllSomething loads × IsFirstAbove loads capacity g × (load ≡ slice_index loads g)
LoadsSay loads capacity (Some _) = ⊥

-- the nodes are those of so many subtrees, one after another
abbrev pub Fills : ℕ → List PackNode → Type 0
Fills zero [] = Unit {0}
Fills zero (node ∷ nodes) = ⊥
Fills (suc n) [] = ⊥
Fills (suc n) (Pair a b ∷ nodes) = Fills (suc (suc n)) nodes
Fills (suc n) (Share s ∷ nodes) = Fills n nodes
Fills (suc n) (Apart ∷ nodes) = Fills n nodes

-- how many subtrees are still to come after a node
abbrev pub subtrees_after : ℕ → PackNode → ℕ
subtrees_after n (Pair a b) = n + 1
subtrees_after n (Share s) = n - 1
subtrees_after n Apart = n - 1

-- the nodes are one tree, and their pairs fit, or this is the first reason, whatever the packing
abbrev pub ShapeSays : Problem → List PackNode → Option PackReason → Type 0
ShapeSays p nodes None = AreWhole nodes × All (NodeFits p) nodes
ShapeSays p nodes (Some reason) = (groups : List ℕ) (count bound : ℕ) → IsPacking p groups count → IsFirstPackReason p (claimed groups count bound nodes) reason

-- the first node that does not fit, by its number from 1
pub record IsFirstUnfit (p : Problem) (nodes : List PackNode) (n : ℕ) : Type 0 where
  pub from_one : 1 ≤ n
  pub in_range : n ≤ length nodes
  pub unfit : ¬ (NodeFits p (slice_index_or nodes (n - 1) Apart))
  pub before : (k : ℕ) → k + 1 < n → NodeFits p (slice_index_or nodes k Apart)

abbrev pub FitsSay : Problem → List PackNode → Option ℕ → Type 0
FitsSay p nodes None = All (NodeFits p) nodes
FitsSay p nodes (Some n) = IsFirstUnfit p nodes n

-- the branches that wait behind that of the node which is read next: where the first child of a pair is being read, its second child's
abbrev pub seconds_from : (before rest : List PackChoice) → List (List PackChoice)
seconds_from before [] = []
seconds_from before (choices.Together a b ∷ rest) = seconds_from (before ++ choices.Together a b ∷ []) rest ++ ((before ++ choices.Apart a b ∷ []) ∷ [])
seconds_from before (choices.Apart a b ∷ rest) = seconds_from (before ++ choices.Apart a b ∷ []) rest

abbrev pub seconds_of : List PackChoice → List (List PackChoice)
seconds_of branch = seconds_from [] branch

-- the branches that wait, where there is a next node; none where the tree is whole
abbrev pub waits : Bool → List PackChoice → List (List PackChoice)
waits true branch = branch ∷ seconds_of branch
waits false branch = []

-- a node is as it should be, or this is what is wrong with it
abbrev pub NodeSays : Problem → (bound number : ℕ) → List PackChoice → PackNode → Option PackReason → Type 0
NodeSays p bound number branch node None = NodeIsRight p bound branch node
NodeSays p bound number branch node (Some reason) = NodeFails p bound number branch node reason

-- each node is as it should be, as far as branches wait
abbrev pub AreRight : Problem → (bound : ℕ) → List PackNode → List (List PackChoice) → Type 0
AreRight p bound [] waiting = Unit {0}
AreRight p bound (node ∷ nodes) [] = Unit {0}
AreRight p bound (node ∷ nodes) (branch ∷ waiting) = NodeIsRight p bound branch node × AreRight p bound nodes (branches_below branch node ++ waiting)

abbrev pub NodesSay : Problem → (bound : ℕ) → List PackNode → Option PackReason → Type 0
NodesSay p bound nodes None = AreRight p bound nodes ([] ∷ [])
NodesSay p bound nodes (Some reason) = FirstNodeFails p bound 1 nodes ([] ∷ []) reason
