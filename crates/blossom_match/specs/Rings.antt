-- An odd cycle of nodes of a tree, and the node that is made of it. No public contract speaks of this.
use Rattle.std.specs.Prelude.{◌≡◌, ◌≢◌, ℕ, suc, ◌+◌, ◌*◌, ◌%◌, ◌<◌, ◌≤◌, Bool, true, false, if◌then◌else◌, List, length, slice_index, slice_set, Some, None, IsSome}
use Rattle.blossom_match.specs.declared.costs.Costs.{Costs}
use Rattle.blossom_match.specs.declared.state.State.{State}
use Rattle.blossom_match.specs.declared.state.Pair.{Pair}
use Rattle.blossom_match.specs.declared.state.Label.TheVariants.{Free, Outer, Inner}
use Rattle.blossom_match.specs.Views.{holds, link_at, mate_at, child_at}
use Rattle.blossom_match.specs.Between.{IsTight}
use Rattle.blossom_match.specs.Turns.{top_of, label_of}

-- an odd cycle of nodes, joined by tight pairs, with its node of least depth
pub record IsRing (costs : Costs) (state : State) (depth : ℕ → ℕ) (next : List ℕ) (link : List Pair) (on : ℕ → Bool) (end : ℕ) : Type 0 where
  pub len : ℕ
  pub odd : len % 2 ≡ 1
  pub several : 3 ≤ len
  pub spot : ℕ → ℕ
  pub first : spot 0 ≡ end
  pub closes : spot len ≡ end
  pub along : (k : ℕ) → k ≤ len → on (spot k) ≡ true
  pub all : (s : ℕ) → on s ≡ true → (k : ℕ) × (k < len) × (spot k ≡ s)
  pub apart : (j k : ℕ) → j < k → k < len → spot j ≢ spot k
  pub in_slots : (s : ℕ) → on s ≡ true → s < 2 * state.size
  pub labelled : (s : ℕ) → on s ≡ true → label_of state s ≢ Free
  pub goes : (k : ℕ) → k < len → slice_index next (spot k) ≡ spot (suc k)
  pub joins : (k : ℕ) → k < len → IsTight costs state.size state.top.items state.sums.items (link_at link (spot k))
  pub leaves : (k : ℕ) → k < len → top_of state (link_at link (spot k)).inside ≡ spot k
  pub enters : (k : ℕ) → k < len → top_of state (link_at link (spot k)).outside ≡ spot (suc k)
  pub end_outer : label_of state end ≡ Outer
  pub has_inner : (s : ℕ) × (on s ≡ true) × (label_of state s ≡ Inner)
  pub matched : (s : ℕ) → on s ≡ true → s ≢ end → IsSome (mate_at state.mate.items s)
  pub mates_on : (s : ℕ) (p : Pair) → on s ≡ true → s ≢ end → mate_at state.mate.items s ≡ Some p → on (top_of state p.outside) ≡ true
  pub end_off : (p : Pair) → mate_at state.mate.items end ≡ Some p → on (top_of state p.outside) ≡ false
  pub low : (s : ℕ) → on s ≡ true → label_of state s ≡ Outer → depth end ≤ depth s

-- a slot that is free, and bears the number of the base of a node that is not the end
pub record IsSlot (state : State) (on : ℕ → Bool) (end whole : ℕ) : Type 0 where
  pub larger : state.size ≤ whole
  pub in_slots : whole < 2 * state.size
  pub free : child_at state.child.items whole ≡ None
  pub part : ℕ
  pub part_on : on part ≡ true
  pub part_other : part ≢ end
  pub named : whole ≡ state.size + slice_index state.base.items part

-- one node is made of the nodes of the cycle
pub record IsShrunk (before now : State) (on : ℕ → Bool) (whole end : ℕ) : Type 0 where
  pub size : now.size ≡ before.size
  pub root : now.root ≡ before.root
  pub halves : now.halves.items ≡ before.halves.items
  pub sums : now.sums.items ≡ before.sums.items
  pub entry : now.entry.items ≡ before.entry.items
  pub mate : now.mate.items ≡ slice_set before.mate.items whole (mate_at before.mate.items end)
  pub child : now.child.items ≡ slice_set before.child.items whole (Some end)
  pub base : now.base.items ≡ slice_set before.base.items whole (slice_index before.base.items end)
  pub held_len : length now.held.items ≡ length before.held.items
  pub top_len : length now.top.items ≡ length before.top.items
  pub label_len : length now.label.items ≡ length before.label.items
  pub next_len : length now.next.items ≡ length before.next.items
  pub link_len : length now.link.items ≡ length before.link.items
  pub one_way_len : length now.one_way.items ≡ length before.one_way.items
  pub other_way_len : length now.other_way.items ≡ length before.other_way.items
  pub top : (v : ℕ) → v < before.size → top_of now v ≡ (if on (top_of before v) then whole else top_of before v)
  pub rows : (s v : ℕ) → v < before.size → s ≢ whole → holds before.size now.held.items s v ≡ holds before.size before.held.items s v
  pub row : (v : ℕ) → v < before.size → holds before.size now.held.items whole v ≡ on (top_of before v)
  pub labels : (s : ℕ) → s ≢ whole → label_of now s ≡ (if on s then Free else label_of before s)
  pub label : label_of now whole ≡ Outer
  pub next_off : (s : ℕ) → on s ≡ false → slice_index now.next.items s ≡ slice_index before.next.items s
  pub link_off : (s : ℕ) → on s ≡ false → link_at now.link.items s ≡ link_at before.link.items s

-- the nodes of a cycle are linked, and all else is the same
pub record IsRelinked (before now : State) : Type 0 where
  pub size : now.size ≡ before.size
  pub root : now.root ≡ before.root
  pub held : now.held.items ≡ before.held.items
  pub halves : now.halves.items ≡ before.halves.items
  pub top : now.top.items ≡ before.top.items
  pub sums : now.sums.items ≡ before.sums.items
  pub child : now.child.items ≡ before.child.items
  pub mate : now.mate.items ≡ before.mate.items
  pub label : now.label.items ≡ before.label.items
  pub entry : now.entry.items ≡ before.entry.items
  pub one_way : now.one_way.items ≡ before.one_way.items
  pub other_way : now.other_way.items ≡ before.other_way.items
  pub base : now.base.items ≡ before.base.items
  pub next_len : length now.next.items ≡ length before.next.items
  pub link_len : length now.link.items ≡ length before.link.items

-- the members of the nodes of a cycle are held by one node, and the nodes are free
pub record IsGathered (before now : State) (on : ℕ → Bool) (whole : ℕ) : Type 0 where
  pub size : now.size ≡ before.size
  pub root : now.root ≡ before.root
  pub halves : now.halves.items ≡ before.halves.items
  pub sums : now.sums.items ≡ before.sums.items
  pub child : now.child.items ≡ before.child.items
  pub next : now.next.items ≡ before.next.items
  pub link : now.link.items ≡ before.link.items
  pub mate : now.mate.items ≡ before.mate.items
  pub entry : now.entry.items ≡ before.entry.items
  pub one_way : now.one_way.items ≡ before.one_way.items
  pub other_way : now.other_way.items ≡ before.other_way.items
  pub base : now.base.items ≡ before.base.items
  pub held_len : length now.held.items ≡ length before.held.items
  pub top_len : length now.top.items ≡ length before.top.items
  pub label_len : length now.label.items ≡ length before.label.items
  pub top : (v : ℕ) → v < before.size → top_of now v ≡ (if on (top_of before v) then whole else top_of before v)
  pub rows : (s v : ℕ) → v < before.size → s ≢ whole → holds before.size now.held.items s v ≡ holds before.size before.held.items s v
  pub row : (v : ℕ) → v < before.size → holds before.size now.held.items whole v ≡ on (top_of before v)
  pub labels : (s : ℕ) → s < length before.label.items → label_of now s ≡ (if on s then Free else label_of before s)

-- a new node takes the place of the end of its cycle
pub record IsFounded (before now : State) (whole end : ℕ) : Type 0 where
  pub size : now.size ≡ before.size
  pub root : now.root ≡ before.root
  pub held : now.held.items ≡ before.held.items
  pub halves : now.halves.items ≡ before.halves.items
  pub top : now.top.items ≡ before.top.items
  pub sums : now.sums.items ≡ before.sums.items
  pub next : now.next.items ≡ before.next.items
  pub link : now.link.items ≡ before.link.items
  pub entry : now.entry.items ≡ before.entry.items
  pub one_way : now.one_way.items ≡ before.one_way.items
  pub other_way : now.other_way.items ≡ before.other_way.items
  pub mate : now.mate.items ≡ slice_set before.mate.items whole (mate_at before.mate.items end)
  pub child : now.child.items ≡ slice_set before.child.items whole (Some end)
  pub base : now.base.items ≡ slice_set before.base.items whole (slice_index before.base.items end)
  pub label : now.label.items ≡ slice_set before.label.items whole Outer
