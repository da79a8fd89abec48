-- What holds between two steps. No public contract speaks of this.
use Rattle.std.specs.Prelude.{◌≡◌, ◌≢◌, ◌⊎◌, ℕ, zero, suc, ◌+◌, ◌*◌, ◌%◌, ◌<◌, ◌≤◌, Bool, true, false, List, length, slice_index, Option, Some, None, IfSome, IsSome, IsSomeAnd}
use Rattle.blossom_match.specs.declared.costs.Costs.{Costs}
use Rattle.blossom_match.specs.declared.state.State.{State}
use Rattle.blossom_match.specs.declared.state.Pair.{Pair}
use Rattle.blossom_match.specs.declared.state.Label.{Label}
use Rattle.blossom_match.specs.declared.state.Label.TheVariants.{Free, Outer, Inner}
use Rattle.blossom_match.specs.Matching.{AreLaminar, AreDistinct, Within, Apart, IsOdd}
use Rattle.blossom_match.specs.Table.{cost}
use Rattle.blossom_match.specs.Views.{holds, turned, child_at, link_at, mate_at, label_at, is_used, held_sum, between}

-- the lists have an entry for each member or slot
pub record IsShape (costs : Costs) (state : State) : Type 0 where
  pub size_is : state.size ≡ costs.size
  pub held_len : length state.held.items ≡ 2 * state.size * state.size
  pub halves_len : length state.halves.items ≡ 2 * state.size
  pub top_len : length state.top.items ≡ state.size
  pub sums_len : length state.sums.items ≡ state.size
  pub child_len : length state.child.items ≡ 2 * state.size
  pub next_len : length state.next.items ≡ 2 * state.size
  pub link_len : length state.link.items ≡ 2 * state.size
  pub mate_len : length state.mate.items ≡ 2 * state.size
  pub label_len : length state.label.items ≡ 2 * state.size
  pub entry_len : length state.entry.items ≡ 2 * state.size
  pub one_way_len : length state.one_way.items ≡ 2 * state.size
  pub other_way_len : length state.other_way.items ≡ 2 * state.size
  pub base_len : length state.base.items ≡ 2 * state.size

-- the used nodes are odd sets, distinct and nested or disjoint, and the slots that are not in use are empty
pub record AreSets (n : ℕ) (held : List Bool) (halves : List ℕ) (child : List (Option ℕ)) : Type 0 where
  pub odd : (s : ℕ) → s < 2 * n → is_used n child s ≡ true → IsOdd n (holds n held s)
  pub laminar : (s t : ℕ) → s < 2 * n → t < 2 * n → s ≢ t → AreLaminar n (holds n held s) (holds n held t)
  pub distinct : (s t : ℕ) → s < 2 * n → t < 2 * n → is_used n child s ≡ true → is_used n child t ≡ true → s ≢ t → AreDistinct n (holds n held s) (holds n held t)
  pub empty : (s v : ℕ) → s < 2 * n → v < n → is_used n child s ≡ false → holds n held s v ≡ false
  pub weightless : (s : ℕ) → s < 2 * n → is_used n child s ≡ false → slice_index halves s ≡ 0

-- each node lies inside one outermost node
pub record AreTops (n : ℕ) (held : List Bool) (top : List ℕ) : Type 0 where
  pub top_in : (v : ℕ) → v < n → slice_index top v < 2 * n
  pub own : (v : ℕ) → v < n → holds n held (slice_index top v) v ≡ true
  pub inside : (s v w : ℕ) → s < 2 * n → v < n → w < n → holds n held s v ≡ true → holds n held s w ≡ true → slice_index top v ≡ slice_index top w

-- for each pair the weights that separate it sum to at most twice its cost
abbrev pub DoPack : Costs → ℕ → List Bool → List ℕ → Type 0
DoPack costs n held halves = (u v : ℕ) → u < n → v < n → u ≢ v → between n held halves u v ≤ 2 * cost costs u v

-- the weights pack, the kept sums are what they say, and they have one parity in an outermost node
pub record AreWeights (costs : Costs) (n : ℕ) (held : List Bool) (halves top sums : List ℕ) : Type 0 where
  pub kept : (v : ℕ) → v < n → slice_index sums v ≡ held_sum n held halves v
  pub packing : DoPack costs n held halves
  pub parity : (u v : ℕ) → u < n → v < n → slice_index top u ≡ slice_index top v → (slice_index sums u + slice_index sums v) % 2 ≡ 0

-- a tight pair between two outermost nodes
pub record IsTight (costs : Costs) (n : ℕ) (top sums : List ℕ) (p : Pair) : Type 0 where
  pub inside_in : p.inside < n
  pub outside_in : p.outside < n
  pub apart : slice_index top p.inside ≢ slice_index top p.outside
  pub tight : slice_index sums p.inside + slice_index sums p.outside ≡ 2 * cost costs p.inside p.outside

-- the pair by which an outermost node is matched
pub record IsMatched (costs : Costs) (n : ℕ) (top sums : List ℕ) (mate : List (Option Pair)) (s : ℕ) (p : Pair) : Type 0 where
  pub tight : IsTight costs n top sums p
  pub here : slice_index top p.inside ≡ s
  pub back : mate_at mate (slice_index top p.outside) ≡ Some (turned p)

abbrev pub AreMatched : Costs → ℕ → List ℕ → List ℕ → List (Option Pair) → Type 0
AreMatched costs n top sums mate = (v : ℕ) → v < n → IfSome (mate_at mate (slice_index top v)) (IsMatched costs n top sums mate (slice_index top v))

-- the child after k steps
abbrev pub after : List ℕ → ℕ → ℕ → ℕ
after next zero c = c
after next (suc k) c = slice_index next (after next k c)

-- a link between two children, tight inside
pub record IsLink (costs : Costs) (n : ℕ) (held : List Bool) (halves : List ℕ) (p : Pair) (part following : ℕ) : Type 0 where
  pub inside_in : p.inside < n
  pub outside_in : p.outside < n
  pub leaves : holds n held part p.inside ≡ true
  pub enters : holds n held following p.outside ≡ true
  pub tight : between n held halves p.inside p.outside ≡ 2 * cost costs p.inside p.outside

-- a set is the odd cycle of its children, joined by tight links
pub record IsCycle (costs : Costs) (n : ℕ) (held : List Bool) (halves : List ℕ) (child : List (Option ℕ)) (next : List ℕ) (link : List Pair) (s c : ℕ) : Type 0 where
  pub len : ℕ
  pub odd : len % 2 ≡ 1
  pub several : 3 ≤ len
  pub closes : after next len c ≡ c
  pub in_slots : (k : ℕ) → k < len → after next k c < 2 * n
  pub used : (k : ℕ) → k < len → is_used n child (after next k c) ≡ true
  pub inner : (k v : ℕ) → k < len → v < n → holds n held (after next k c) v ≡ true → holds n held s v ≡ true
  pub covers : (v : ℕ) → v < n → holds n held s v ≡ true → (k : ℕ) × (k < len) × (holds n held (after next k c) v ≡ true)
  pub disjoint : (j k : ℕ) → j < k → k < len → Apart n (holds n held (after next j c)) (holds n held (after next k c))
  pub links : (k : ℕ) → k < len → IsLink costs n held halves (link_at link (after next k c)) (after next k c) (after next (suc k) c)

pub record AreCycles (costs : Costs) (n : ℕ) (held : List Bool) (halves : List ℕ) (child : List (Option ℕ)) (next : List ℕ) (link : List Pair) : Type 0 where
  pub single : (s v : ℕ) → s < n → v < n → holds n held s v ≡ true → s ≡ v
  pub no_child : (s : ℕ) → s < n → child_at child s ≡ None
  pub larger : (s : ℕ) → s < 2 * n → IfSome (child_at child s) (IsCycle costs n held halves child next link s)

-- each used node has a member as its base, and the slot with a base's number is free or holds more than the base's node
pub record AreBased (n : ℕ) (held : List Bool) (child : List (Option ℕ)) (base : List ℕ) : Type 0 where
  pub base_in : (s : ℕ) → s < 2 * n → is_used n child s ≡ true → slice_index base s < n
  pub own : (s : ℕ) → s < 2 * n → is_used n child s ≡ true → holds n held s (slice_index base s) ≡ true
  pub claimed : (s : ℕ) → s < 2 * n → is_used n child s ≡ true → is_used n child (n + slice_index base s) ≡ true →
      (s ≢ n + slice_index base s) × Within n (holds n held s) (holds n held (n + slice_index base s))

-- all that holds between two searches
pub record IsBetween (costs : Costs) (state : State) : Type 0 where
  pub shape : IsShape costs state
  pub sets : AreSets state.size state.held.items state.halves.items state.child.items
  pub tops : AreTops state.size state.held.items state.top.items
  pub weights : AreWeights costs state.size state.held.items state.halves.items state.top.items state.sums.items
  pub cycles : AreCycles costs state.size state.held.items state.halves.items state.child.items state.next.items state.link.items
  pub matched : AreMatched costs state.size state.top.items state.sums.items state.mate.items
  pub based : AreBased state.size state.held.items state.child.items state.base.items

-- how an inner node was reached, and where the tree goes on
pub record IsReached (costs : Costs) (n : ℕ) (top sums : List ℕ) (label : List Label) (entry : Pair) (s : ℕ) (p : Pair) : Type 0 where
  pub entry_tight : IsTight costs n top sums entry
  pub entry_here : slice_index top entry.inside ≡ s
  pub above : label_at label (slice_index top entry.outside) ≡ Outer
  pub below : label_at label (slice_index top p.outside) ≡ Outer
  pub forks : slice_index top entry.outside ≢ slice_index top p.outside

-- the tree of a search from an unmatched node
pub record IsTree (costs : Costs) (n : ℕ) (top sums : List ℕ) (mate : List (Option Pair)) (label : List Label) (entry : List Pair) (root : ℕ) : Type 0 where
  pub root_in : root < n
  pub root_outer : label_at label (slice_index top root) ≡ Outer
  pub root_open : mate_at mate (slice_index top root) ≡ None
  pub outermost : (s : ℕ) → s < 2 * n → label_at label s ≢ Free → (v : ℕ) × (v < n) × (slice_index top v ≡ s)
  pub outer : (s : ℕ) → s < 2 * n → label_at label s ≡ Outer → (s ≡ slice_index top root) ⊎ IsSomeAnd (mate_at mate s) (λ p. label_at label (slice_index top p.outside) ≡ Inner)
  pub inner : (s : ℕ) → s < 2 * n → label_at label s ≡ Inner → IsSomeAnd (mate_at mate s) (IsReached costs n top sums label (link_at entry s) s)
  pub parity : (u v : ℕ) → u < n → v < n → label_at label (slice_index top u) ≢ Free → label_at label (slice_index top v) ≢ Free → (slice_index sums u + slice_index sums v) % 2 ≡ 0
  pub depth : ℕ → ℕ
  pub deeper : (s : ℕ) → s < 2 * n → label_at label s ≡ Inner → IfSome (mate_at mate s) (λ p. depth (slice_index top (link_at entry s).outside) < depth (slice_index top p.outside))

-- all that holds between two turns of a search
pub record IsSearching (costs : Costs) (state : State) : Type 0 where
  pub so_far : IsBetween costs state
  pub tree : IsTree costs state.size state.top.items state.sums.items state.mate.items state.label.items state.entry.items state.root

-- no node is in a tree
abbrev pub IsTreeless : List Label → Type 0
IsTreeless label = (s : ℕ) → label_at label s ≡ Free

-- the node of a member is matched
abbrev pub HasMate : State → ℕ → Type 0
HasMate state v = IsSome (mate_at state.mate.items (slice_index state.top.items v))

-- what was matched stays so
pub record KeepsMates (before now : State) : Type 0 where
  pub size : now.size ≡ before.size
  pub kept : (v : ℕ) → v < before.size → HasMate before v → HasMate now v

-- what was matched stays so, or is in the root's node; and what is in the root's node stays there
pub record KeepsRoot (before now : State) : Type 0 where
  pub size : now.size ≡ before.size
  pub root : now.root ≡ before.root
  pub kept : (w : ℕ) → w < before.size → HasMate before w → HasMate now w ⊎ (slice_index now.top.items w ≡ slice_index now.top.items now.root)
  pub together : (w : ℕ) → w < before.size → slice_index before.top.items w ≡ slice_index before.top.items before.root → slice_index now.top.items w ≡ slice_index now.top.items now.root
