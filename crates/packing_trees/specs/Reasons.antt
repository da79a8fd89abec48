-- The first reason why a packing and its tree are not what they claim to be.
use Rattle.std.specs.Prelude.{◌≡◌, ◌≢◌, ℕ, zero, suc, ◌+◌, ◌-◌, ◌*◌, ◌<◌, ◌≤◌, ◌⊎◌, List, [], ◌∷◌, ◌++◌, length, slice_index_or}
use Rattle.std.specs.List.{All}
use Rattle.carp_base.specs.Problem.{Problem, IsRequired}
use Rattle.carp_base.specs.Packings.{IsGroup, IsPacking, group_of, group_load}
use Rattle.packing_trees.specs.declared.node.PackChoice.{PackChoice}
use Rattle.packing_trees.specs.declared.node.PackChoice.TheVariants as choices
use Rattle.packing_trees.specs.declared.node.PackNode.{PackNode}
use Rattle.packing_trees.specs.declared.node.PackNode.TheVariants.{Pair, Share, Apart}
use Rattle.packing_trees.specs.declared.reason.PackAnswer.{PackAnswer}
use Rattle.packing_trees.specs.declared.reason.PackAnswer.TheVariants.{Accepted, Rejected}
use Rattle.packing_trees.specs.declared.reason.PackReason.{PackReason}
use Rattle.packing_trees.specs.declared.reason.PackReason.TheVariants.{GroupsDiffer, GroupWrong, GroupEmpty, Overload, NotWhole, Misfit, NotLean, ShareWrong, NotApart, LeafLow}
use Rattle.packing_trees.specs.Bundles.{IsPair, IsClosedPair, AreAllClosed, bundle_count, share_value}
use Rattle.packing_trees.specs.Trees.{PackTree, preorder, IsPackProof}

-- what is claimed: groups, their number, a bound, and the nodes of a tree
pub record Claim : Type 0 where
  pub groups : List ℕ
  pub count : ℕ
  pub bound : ℕ
  pub nodes : List PackNode

-- the groups are a packing with that count, and the tree proves the bound
pub record IsGoodPacking (p : Problem) (c : Claim) : Type 0 where
  pub packing : IsPacking p c.groups c.count
  pub proof : IsPackProof p c.nodes c.bound

-- there is a group for each required edge
abbrev pub HasGroupEach : Problem → Claim → Type 0
HasGroupEach p c = length c.groups ≡ p.required

-- and each is a number of a group
pub record GroupsArePlaced (p : Problem) (c : Claim) : Type 0 where
  pub one_each : HasGroupEach p c
  pub placed : (e : ℕ) → IsRequired p e → IsGroup c.count (group_of c.groups e)

-- some edge lies in the group
abbrev pub IsFilled : Problem → Claim → ℕ → Type 0
IsFilled p c g = (e : ℕ) × IsRequired p e × (group_of c.groups e ≡ g)

-- and none is empty
pub record GroupsAreFilled (p : Problem) (c : Claim) : Type 0 where
  pub groups : GroupsArePlaced p c
  pub filled : (g : ℕ) → IsGroup c.count g → IsFilled p c g

-- the least edge with no number of a group
pub record IsFirstWrong (p : Problem) (c : Claim) (e : ℕ) : Type 0 where
  pub required : IsRequired p e
  pub wrong : ¬ (IsGroup c.count (group_of c.groups e))
  pub before : (d : ℕ) → IsRequired p d → d < e → IsGroup c.count (group_of c.groups d)

-- the least empty group
pub record IsFirstEmpty (p : Problem) (c : Claim) (g : ℕ) : Type 0 where
  pub group : IsGroup c.count g
  pub empty : ¬ (IsFilled p c g)
  pub before : (h : ℕ) → IsGroup c.count h → h < g → IsFilled p c h

-- the least group above the capacity, and its demand
pub record IsFirstOverload (p : Problem) (c : Claim) (g load : ℕ) : Type 0 where
  pub group : IsGroup c.count g
  pub load_is : load ≡ group_load p c.groups g
  pub above : p.capacity < load
  pub before : (h : ℕ) → IsGroup c.count h → h < g → group_load p c.groups h ≤ p.capacity

-- So many subtrees are still to come, and so many nodes were read: the nodes to come are not these subtrees alone. The place is the number of nodes
-- that had been read when the last subtree was whole and another node came, or when the nodes ended before
abbrev pub NotWholeAt : (subtrees read : ℕ) → List PackNode → (place : ℕ) → Type 0
NotWholeAt zero read [] place = ⊥
NotWholeAt zero read (node ∷ nodes) place = place ≡ read
NotWholeAt (suc n) read [] place = place ≡ read
NotWholeAt (suc n) read (Pair a b ∷ nodes) place = NotWholeAt (suc (suc n)) (read + 1) nodes place
NotWholeAt (suc n) read (Share s ∷ nodes) place = NotWholeAt n (read + 1) nodes place
NotWholeAt (suc n) read (Apart ∷ nodes) place = NotWholeAt n (read + 1) nodes place

-- the nodes are one whole tree in preorder
abbrev pub AreWhole : List PackNode → Type 0
AreWhole nodes = (tree : PackTree) × (preorder tree ≡ nodes)

-- a pair is of two required edges, the lesser one first
abbrev pub NodeFits : Problem → PackNode → Type 0
NodeFits p (Pair a b) = IsPair p a b
NodeFits p (Share s) = Unit {0}
NodeFits p Apart = Unit {0}

-- the groups are a packing, and the nodes a tree
pub record TreeIsWhole (p : Problem) (c : Claim) : Type 0 where
  pub packing : IsPacking p c.groups c.count
  pub whole : AreWhole c.nodes

-- and its pairs fit
pub record TreeFits (p : Problem) (c : Claim) : Type 0 where
  pub tree : TreeIsWhole p c
  pub fits : All (NodeFits p) c.nodes

-- the first node that does not fit; nodes are counted from 1
pub record IsFirstMisfit (p : Problem) (c : Claim) (n : ℕ) : Type 0 where
  pub from_one : 1 ≤ n
  pub in_range : n ≤ length c.nodes
  pub misfit : ¬ (NodeFits p (slice_index_or c.nodes (n - 1) Apart))
  pub before : (k : ℕ) → 1 ≤ k → k < n → NodeFits p (slice_index_or c.nodes (k - 1) Apart)

-- what is wrong with a node of this number that stands under these choices
abbrev pub NodeFails : Problem → (bound number : ℕ) → List PackChoice → PackNode → PackReason → Type 0
NodeFails p bound number branch (Pair a b) reason = IsClosedPair p branch a b × (reason ≡ NotLean number)
NodeFails p bound number branch (Share s) reason =
    ((p.capacity < 2 * s) × (reason ≡ ShareWrong number))
    ⊎ ((2 * s ≤ p.capacity) × (share_value p branch s < bound) × (reason ≡ LeafLow number (share_value p branch s)))
NodeFails p bound number branch Apart reason =
    (¬ (AreAllClosed p branch) × (reason ≡ NotApart number))
    ⊎ (AreAllClosed p branch × (bundle_count p branch < bound) × (reason ≡ LeafLow number (bundle_count p branch)))

-- a node is as it should be under these choices
abbrev pub NodeIsRight : Problem → (bound : ℕ) → List PackChoice → PackNode → Type 0
NodeIsRight p bound branch (Pair a b) = ¬ (IsClosedPair p branch a b)
NodeIsRight p bound branch (Share s) = (2 * s ≤ p.capacity) × (bound ≤ share_value p branch s)
NodeIsRight p bound branch Apart = AreAllClosed p branch × (bound ≤ bundle_count p branch)

-- the branches of the children of a node
abbrev pub branches_below : List PackChoice → PackNode → List (List PackChoice)
branches_below branch (Pair a b) = (branch ++ choices.Together a b ∷ []) ∷ (branch ++ choices.Apart a b ∷ []) ∷ []
branches_below branch (Share s) = []
branches_below branch Apart = []

-- the reason of the first node that fails; each node stands under the first of the branches that wait
abbrev pub FirstNodeFails : Problem → (bound number : ℕ) → List PackNode → List (List PackChoice) → PackReason → Type 0
FirstNodeFails p bound number [] waiting reason = ⊥
FirstNodeFails p bound number (node ∷ nodes) [] reason = ⊥
FirstNodeFails p bound number (node ∷ nodes) (branch ∷ waiting) reason =
    NodeFails p bound number branch node reason
    ⊎ (NodeIsRight p bound branch node × FirstNodeFails p bound (number + 1) nodes (branches_below branch node ++ waiting) reason)

-- groups and tree are there, and this is the reason of the first node that fails
abbrev pub NodesFail : Problem → Claim → PackReason → Type 0
NodesFail p c reason = TreeFits p c × FirstNodeFails p c.bound 1 c.nodes ([] ∷ []) reason

-- the first reason, in this order: how many groups, their numbers, none empty, loads, one whole tree, its pairs, and then node by node
abbrev pub IsFirstPackReason : Problem → Claim → PackReason → Type 0
IsFirstPackReason p c (GroupsDiffer stated found) = (stated ≡ length c.groups) × (found ≡ p.required) × (stated ≢ found)
IsFirstPackReason p c (GroupWrong e) = HasGroupEach p c × IsFirstWrong p c e
IsFirstPackReason p c (GroupEmpty g) = GroupsArePlaced p c × IsFirstEmpty p c g
IsFirstPackReason p c (Overload g load) = GroupsAreFilled p c × IsFirstOverload p c g load
IsFirstPackReason p c (NotWhole n) = IsPacking p c.groups c.count × NotWholeAt 1 0 c.nodes n
IsFirstPackReason p c (Misfit n) = TreeIsWhole p c × IsFirstMisfit p c n
IsFirstPackReason p c (NotLean n) = NodesFail p c (NotLean n)
IsFirstPackReason p c (ShareWrong n) = NodesFail p c (ShareWrong n)
IsFirstPackReason p c (NotApart n) = NodesFail p c (NotApart n)
IsFirstPackReason p c (LeafLow n value) = NodesFail p c (LeafLow n value)

-- the answer: what is good is accepted, and what is not has its first reason
abbrev pub IsPackAnswer : Problem → Claim → PackAnswer → Type 0
IsPackAnswer p c Accepted = IsGoodPacking p c
IsPackAnswer p c (Rejected reason) = IsFirstPackReason p c reason

-- every packing has at least as many groups as an accepted bound
abbrev pub ProvesBound : Problem → Claim → PackAnswer → Type 0
ProvesBound p c Accepted = (groups : List ℕ) (count : ℕ) → IsPacking p groups count → c.bound ≤ count
ProvesBound p c (Rejected reason) = Unit {0}

-- no good packing has a first reason
abbrev pub GoodHasNoReason : Type 0
GoodHasNoReason = (p : Problem) (c : Claim) (reason : PackReason) → IsGoodPacking p c → ¬ (IsFirstPackReason p c reason)

-- a packing has at most one first reason
abbrev pub ReasonIsUnique : Type 0
ReasonIsUnique = (p : Problem) (c : Claim) (reason other : PackReason) → IsFirstPackReason p c reason → IsFirstPackReason p c other → reason ≡ other
