-- Ways up a tree, and the cycle that two of them close. No public contract speaks of this.
use Rattle.std.specs.Prelude.{◌≡◌, ◌≢◌, ℕ, zero, suc, ◌+◌, ◌*◌, ◌<◌, ◌≤◌, Bool, true, false, ◌||◌, if◌then◌else◌, nat_le, List, length, slice_index, slice_index_or, Option, Some, None, is_some, IfSome}
use Rattle.blossom_match.specs.declared.costs.Costs.{Costs}
use Rattle.blossom_match.specs.declared.state.State.{State}
use Rattle.blossom_match.specs.declared.state.Pair.{Pair}
use Rattle.blossom_match.specs.declared.state.Label.{Label}
use Rattle.blossom_match.specs.declared.state.Label.TheVariants.{Outer, Inner}
use Rattle.blossom_match.specs.Matching.{total}
use Rattle.blossom_match.specs.Views.{label_at, link_at, mate_at, turned}
use Rattle.blossom_match.specs.Turns.{IsMeet, top_of}
use Rattle.blossom_match.specs.Between.{IsSearching}

-- how many steps up a node stands, if it is on the way
abbrev pub way_at : List (Option ℕ) → ℕ → Option ℕ
way_at way s = slice_index_or way s None

-- the node above a node, and the one k steps up
abbrev pub above : List ℕ → List Pair → ℕ → ℕ
above top entry s = slice_index top (link_at entry s).outside

abbrev pub climb : List ℕ → List Pair → ℕ → ℕ → ℕ
climb top entry zero s = s
climb top entry (suc k) s = above top entry (climb top entry k s)

-- each matched outer node has its pair as its entry, too
abbrev pub AreAimed : ℕ → List (Option Pair) → List Label → List Pair → Type 0
AreAimed slots mate label entry = (s : ℕ) → s < slots → label_at label s ≡ Outer → IfSome (mate_at mate s) (λ p. link_at entry s ≡ p)

-- each way up comes to the root
pub record IsWayUp (top : List ℕ) (entry : List Pair) (slots from root : ℕ) : Type 0 where
  pub inside : ℕ → Bool
  pub height : ℕ → ℕ
  pub begins : inside from ≡ true
  pub in_slots : (s : ℕ) → inside s ≡ true → s < slots
  pub outside_in : (s : ℕ) → inside s ≡ true → s ≢ root → (link_at entry s).outside < length top
  pub climbs : (s : ℕ) → inside s ≡ true → s ≢ root → inside (above top entry s) ≡ true
  pub lower : (s : ℕ) → inside s ≡ true → s ≢ root → height (above top entry s) < height s

-- the nodes on the way up have their numbers of steps as marks, and no others have marks
pub record IsWay (top : List ℕ) (entry : List Pair) (from root : ℕ) (way : List (Option ℕ)) : Type 0 where
  pub len : ℕ
  pub ends : climb top entry len from ≡ root
  pub marks : (k : ℕ) → k ≤ len → way_at way (climb top entry k from) ≡ Some k
  pub only : (s k : ℕ) → way_at way s ≡ Some k → (k ≤ len) × (climb top entry k from ≡ s)

abbrev pub unmarked : ℕ → List (Option ℕ) → ℕ
unmarked slots way = total slots (λ s. if is_some (way_at way s) then 0 else 1)

-- the way is marked up to this node
pub record IsMarking (top : List ℕ) (entry : List Pair) (slots from root : ℕ) (way : List (Option ℕ)) (node steps : ℕ) : Type 0 where
  pub up : IsWayUp top entry slots from root
  pub at : climb top entry steps from ≡ node
  pub here : up.inside node ≡ true
  pub marks : (k : ℕ) → k ≤ steps → way_at way (climb top entry k from) ≡ Some k
  pub only : (s k : ℕ) → way_at way s ≡ Some k → (k ≤ steps) × (climb top entry k from ≡ s)
  pub higher : (s k : ℕ) → way_at way s ≡ Some k → up.height node ≤ up.height s
  pub count : steps + 1 + unmarked slots way ≤ slots

-- two ways join at this node, and not before it on the first one
pub record IsJoin (one other : List (Option ℕ)) (node a b : ℕ) : Type 0 where
  pub one_at : way_at one node ≡ Some a
  pub other_at : way_at other node ≡ Some b
  pub first : (s j k : ℕ) → way_at one s ≡ Some j → way_at other s ≡ Some k → a ≤ j

-- at most so many steps up
abbrev pub is_within : Option ℕ → ℕ → Bool
is_within None most = false
is_within (Some k) most = nat_le k most

-- the nodes of two ways up to where they join
abbrev pub on_cycle : List (Option ℕ) → List (Option ℕ) → ℕ → ℕ → ℕ → Bool
on_cycle one other a b s = is_within (way_at one s) a || is_within (way_at other s) b

-- the first so many steps of a way lead to different nodes
pub record IsTrail (top : List ℕ) (entry : List Pair) (slots from steps : ℕ) : Type 0 where
  pub in_slots : (k : ℕ) → k ≤ steps → climb top entry k from < slots
  pub outside_in : (k : ℕ) → k < steps → (link_at entry (climb top entry k from)).outside < length top
  pub apart : (j k : ℕ) → j < k → k ≤ steps → climb top entry j from ≢ climb top entry k from

-- each node of a way is linked down to the one below it
pub record IsLinkedDown (top : List ℕ) (entry : List Pair) (from steps : ℕ) (next next' : List ℕ) (link link' : List Pair) : Type 0 where
  pub next_at : (k : ℕ) → k < steps → slice_index next' (climb top entry (suc k) from) ≡ climb top entry k from
  pub link_at_it : (k : ℕ) → k < steps → link_at link' (climb top entry (suc k) from) ≡ turned (link_at entry (climb top entry k from))
  pub next_off : (s : ℕ) → ((k : ℕ) → k < steps → s ≢ climb top entry (suc k) from) → slice_index next' s ≡ slice_index next s
  pub link_off : (s : ℕ) → ((k : ℕ) → k < steps → s ≢ climb top entry (suc k) from) → link_at link' s ≡ link_at link s

-- each node of a way is linked up to the one above it
pub record IsLinkedUp (top : List ℕ) (entry : List Pair) (from steps : ℕ) (next next' : List ℕ) (link link' : List Pair) : Type 0 where
  pub next_at : (k : ℕ) → k < steps → slice_index next' (climb top entry k from) ≡ climb top entry (suc k) from
  pub link_at_it : (k : ℕ) → k < steps → link_at link' (climb top entry k from) ≡ link_at entry (climb top entry k from)
  pub next_off : (s : ℕ) → ((k : ℕ) → k < steps → s ≢ climb top entry k from) → slice_index next' s ≡ slice_index next s
  pub link_off : (s : ℕ) → ((k : ℕ) → k < steps → s ≢ climb top entry k from) → link_at link' s ≡ link_at link s

-- two ways that have no node in common but the last one
pub record IsFork (top : List ℕ) (entry : List Pair) (slots first second a b : ℕ) : Type 0 where
  pub one : IsTrail top entry slots first a
  pub other : IsTrail top entry slots second b
  pub cross : (j k : ℕ) → j ≤ a → k < b → climb top entry j first ≢ climb top entry k second

-- the nodes of two ways are linked: down the first, across the pair u, v, and up the other
pub record IsClosed (top : List ℕ) (entry : List Pair) (u v first second a b : ℕ) (next next' : List ℕ) (link link' : List Pair) : Type 0 where
  pub down_next : (k : ℕ) → k < a → slice_index next' (climb top entry (suc k) first) ≡ climb top entry k first
  pub down_link : (k : ℕ) → k < a → link_at link' (climb top entry (suc k) first) ≡ turned (link_at entry (climb top entry k first))
  pub across_next : slice_index next' first ≡ second
  pub across_link : link_at link' first ≡ record { inside = u; outside = v }
  pub up_next : (k : ℕ) → k < b → slice_index next' (climb top entry k second) ≡ climb top entry (suc k) second
  pub up_link : (k : ℕ) → k < b → link_at link' (climb top entry k second) ≡ link_at entry (climb top entry k second)
  pub next_off : (s : ℕ) → ((k : ℕ) → k ≤ a → s ≢ climb top entry k first) → ((k : ℕ) → k < b → s ≢ climb top entry k second) → slice_index next' s ≡ slice_index next s
  pub link_off : (s : ℕ) → ((k : ℕ) → k ≤ a → s ≢ climb top entry k first) → ((k : ℕ) → k < b → s ≢ climb top entry k second) → link_at link' s ≡ link_at link s

-- the two ways from a tight pair of outer nodes to the root are marked
pub record IsForked (costs : Costs) (state : State) (u v : ℕ) : Type 0 where
  pub searching : IsSearching costs state
  pub aimed : AreAimed (2 * state.size) state.mate.items state.label.items state.entry.items
  pub meet : IsMeet costs state 0 u v
  pub one : IsWay state.top.items state.entry.items (top_of state u) (top_of state state.root) state.one_way.items
  pub other : IsWay state.top.items state.entry.items (top_of state v) (top_of state state.root) state.other_way.items

-- all that a search needs is the same but for the entries of nodes that are not inner
pub record IsSameTree (before now : State) : Type 0 where
  pub size : now.size ≡ before.size
  pub root : now.root ≡ before.root
  pub held : now.held.items ≡ before.held.items
  pub halves : now.halves.items ≡ before.halves.items
  pub top : now.top.items ≡ before.top.items
  pub sums : now.sums.items ≡ before.sums.items
  pub child : now.child.items ≡ before.child.items
  pub next : now.next.items ≡ before.next.items
  pub link : now.link.items ≡ before.link.items
  pub mate : now.mate.items ≡ before.mate.items
  pub label : now.label.items ≡ before.label.items
  pub base : now.base.items ≡ before.base.items
  pub entry_len : length now.entry.items ≡ length before.entry.items
  pub one_way_len : length now.one_way.items ≡ length before.one_way.items
  pub other_way_len : length now.other_way.items ≡ length before.other_way.items
  pub entry : (s : ℕ) → s < 2 * before.size → label_at before.label.items s ≡ Inner → link_at now.entry.items s ≡ link_at before.entry.items s
