-- What a search keeps: the nodes that are done, the branch of the leaf at hand, and the leaves that wait. No public contract speaks of this.
use Rattle.std.specs.Prelude.{◌≡◌, ℕ, ◌+◌, ◌*◌, ◌<◌, ◌≤◌, List, [], ◌∷◌, ◌++◌, length, reverse, map, sum_by, if◌then◌else◌, nat_le}
use Rattle.std.specs.List.{All}
use Rattle.carp_base.specs.Problem.{Problem}
use Rattle.packing_trees.specs.declared.node.PackChoice.{PackChoice}
use Rattle.packing_trees.specs.declared.node.PackChoice.TheVariants as choices
use Rattle.packing_trees.specs.declared.node.PackNode.{PackNode}
use Rattle.packing_trees.specs.declared.node.PackNode.TheVariants as nodes
use Rattle.packing_trees.specs.Bundles.{IsPair, IsChoice, IsClosedPair, AreAllClosed, bundle_count, bundle_weight, share_value}
use Rattle.packing_trees.specs.Reasons.{branches_below}
use Rattle.std.specs.Prelude.{Option, Some, None, ◌⊎◌}
use Rattle.fleet_pack.specs.declared.share.Share.{Share}
use Rattle.fleet_pack.specs.declared.pairs.OpenPair.{OpenPair}
use Rattle.fleet_pack.specs.declared.search.Search.{Search}
use Rattle.carp_base.specs.Packings.{IsPacking}
use Rattle.packing_trees.specs.declared.packing.Packing.{Packing}
use Rattle.fleet_pack.specs.Packed.{HasTree}
use Rattle.fleet_pack.specs.Groups.{IsGrouping}

-- the branches that wait after some nodes, each of which stands under the first of those that wait before it
abbrev pub waiting_for : List PackNode → List (List PackChoice) → List (List PackChoice)
waiting_for [] waiting = waiting
waiting_for (node ∷ nodes) [] = []
waiting_for (node ∷ nodes) (branch ∷ waiting) = waiting_for nodes (branches_below branch node ++ waiting)

-- each node is so under its branch
abbrev pub NodesAre : (List PackChoice → PackNode → Type 0) → List PackNode → List (List PackChoice) → Type 0
NodesAre P [] waiting = Unit {0}
NodesAre P (node ∷ nodes) [] = ⊥
NodesAre P (node ∷ nodes) (branch ∷ waiting) = P branch node × NodesAre P nodes (branches_below branch node ++ waiting)

-- each bundle fits into a group
abbrev pub IsLight : Problem → List PackChoice → Type 0
IsLight p branch = (bundle : ℕ) → bundle_weight p branch bundle ≤ p.capacity

-- a lawful share, with its value under a branch
pub record IsShare (p : Problem) (branch : List PackChoice) (share : Share) : Type 0 where
  pub fits : 2 * share.s ≤ p.capacity
  pub value_is : share.value ≡ share_value p branch share.s

-- a leaf that is not done, with its share
pub record IsLeaf (p : Problem) (branch : List PackChoice) (found : Share) : Type 0 where
  pub choices : All (IsChoice p) branch
  pub light : IsLight p branch
  pub share : IsShare p branch found

abbrev pub AreLeaves : Problem → List (List PackChoice) → List Share → Type 0
AreLeaves p [] [] = Unit {0}
AreLeaves p [] (share ∷ shares) = ⊥
AreLeaves p (branch ∷ branches) [] = ⊥
AreLeaves p (branch ∷ branches) (share ∷ shares) = IsLeaf p branch share × AreLeaves p branches shares

-- A branch whose last choices are these, behind those before: for each pair put together the branch in which it is apart, the deepest first,
-- and then those that wait besides
abbrev pub apart_waits : (before branch : List PackChoice) → (later : List (List PackChoice)) → List (List PackChoice)
apart_waits before [] later = later
apart_waits before (choices.Together a b ∷ branch) later =
    apart_waits (before ++ choices.Together a b ∷ []) branch ((before ++ choices.Apart a b ∷ []) ∷ later)
apart_waits before (choices.Apart a b ∷ branch) later = apart_waits (before ++ choices.Apart a b ∷ []) branch later

abbrev pub aparts_of : List PackChoice → List (List PackChoice)
aparts_of branch = apart_waits [] branch []

-- the branches of the leaves that are not done, the one at hand first; the shares are those of these leaves
abbrev pub leaves_of : List PackChoice → List Share → List (List PackChoice)
leaves_of path [] = []
leaves_of path (share ∷ shares) = path ∷ aparts_of path

-- a node is done: an inner node is lean, and a leaf is lawful and its value is at least the count
abbrev pub IsDone : Problem → ℕ → List PackChoice → PackNode → Type 0
IsDone p count branch (nodes.Pair a b) = IsPair p a b × ¬ (IsClosedPair p branch a b)
IsDone p count branch (nodes.Share s) = (2 * s ≤ p.capacity) × (count ≤ share_value p branch s)
IsDone p count branch nodes.Apart = AreAllClosed p branch × (count ≤ bundle_count p branch)

-- a node of which no node comes
abbrev pub IsOuter : PackNode → Type 0
IsOuter (nodes.Pair a b) = ⊥
IsOuter (nodes.Share s) = Unit {0}
IsOuter nodes.Apart = Unit {0}

-- the state of a search: the shares of the leaves that are not done, the one at hand first
pub record IsState (p : Problem) (count : ℕ) (nodes : List PackNode) (path : List PackChoice) (shares : List Share) : Type 0 where
  pub leaves : AreLeaves p (leaves_of path shares) shares
  pub reads : waiting_for nodes ([] ∷ []) ≡ leaves_of path shares
  pub done : NodesAre (IsDone p count) nodes ([] ∷ [])

-- a path goes back to the nearest branch in which a pair is apart, where one waits
pub record IsBack (before after : List PackChoice) : Type 0 where
  pub leads : (first : List PackChoice) (rest : List (List PackChoice)) → aparts_of before ≡ first ∷ rest → (after ≡ first) × (aparts_of after ≡ rest)

-- how many leaves have at least this value
abbrev pub closed_count : ℕ → List Share → ℕ
closed_count count shares = sum_by (λ share. if nat_le count share.value then 1 else 0) shares

-- the least value of these leaves, or the count where it is no greater
pub record IsLeastValue (count : ℕ) (shares : List Share) (bound : ℕ) : Type 0 where
  pub most : bound ≤ count
  pub each : All (λ share. bound ≤ share.value) shares
  pub greatest : (b : ℕ) → b ≤ count → All (λ share. b ≤ share.value) shares → b ≤ bound

-- these leaves as nodes
abbrev pub share_nodes : List Share → List PackNode
share_nodes shares = map (λ share. nodes.Share share.s) shares

-- an open pair, or none where each pair is closed
abbrev pub FindsOpen : Problem → List PackChoice → Option OpenPair → Type 0
FindsOpen p branch None = AreAllClosed p branch
FindsOpen p branch (Some found) = IsPair p found.a found.b × ¬ (IsClosedPair p branch found.a found.b)

-- the same of the pairs that stand before a pair, row by row
abbrev pub FindsBefore : Problem → List PackChoice → (a b : ℕ) → Option OpenPair → Type 0
FindsBefore p branch a b None = (c d : ℕ) → IsPair p c d → (c < a) ⊎ ((c ≡ a) × (d < b)) → IsClosedPair p branch c d
FindsBefore p branch a b (Some found) = IsPair p found.a found.b × ¬ (IsClosedPair p branch found.a found.b)

-- the better of an open pair and another pair, if that is open
abbrev pub FindsOneMore : Problem → List PackChoice → (a b : ℕ) → (before after : Option OpenPair) → Type 0
FindsOneMore p branch a b before None = (before ≡ None) × IsClosedPair p branch a b
FindsOneMore p branch a b before (Some found) = (before ≡ Some found) ⊎ ((found.a ≡ a) × (found.b ≡ b) × ¬ (IsClosedPair p branch a b))

-- the best packing so far, and the state of the search for its count
pub record IsSearch (p : Problem) (search : Search) : Type 0 where
  pub best : IsGrouping p search.best
  pub state : IsState p search.best.count search.nodes.items search.path.items (reverse search.shares.items)

-- the same where the share of the leaf at hand was taken from the others
pub record IsAtHand (p : Problem) (search : Search) (share : Share) : Type 0 where
  pub best : IsGrouping p search.best
  pub state : IsState p search.best.count search.nodes.items search.path.items (share ∷ reverse search.shares.items)

-- there is a leaf at hand, whose share was taken from the others
pub record HasLeaf (p : Problem) (search : Search) : Type 0 where
  pub share : Share
  pub at_hand : IsAtHand p search share

abbrev pub turns_now : Search → ℕ
turns_now search = length search.nodes.items + closed_count search.best.count search.shares.items

-- each leaf has a value of at least the count, or the turns are at least so many
abbrev pub HasEnded : ℕ → Search → Type 0
HasEnded turns search = All (λ share. search.best.count ≤ share.value) search.shares.items ⊎ (turns ≤ turns_now search)

-- the best packing of a search, with a tree of which its leaves are leaves as they stand
pub record IsFinished (p : Problem) (search : Search) (found : Packing) : Type 0 where
  pub packing : IsPacking p found.groups.items found.count
  pub count_is : found.count ≡ search.best.count
  pub tree : HasTree p found
  pub few : length found.tree.items ≤ 2 * length search.nodes.items + 1
  pub ended : (limit : ℕ) → HasEnded limit search → found.bound < found.count → limit ≤ found.turns
