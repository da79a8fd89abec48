-- How the children of an inner node take its place in the tree. No public contract speaks of this.
use Rattle.std.specs.Prelude.{◌≡◌, ◌≢◌, ◌⊎◌, ℕ, suc, ◌*◌, ◌%◌, ◌<◌, ◌≤◌, false, List, length, None}
use Rattle.blossom_match.specs.declared.state.State.{State}
use Rattle.blossom_match.specs.declared.state.Pair.{Pair}
use Rattle.blossom_match.specs.declared.state.Label.{Label}
use Rattle.blossom_match.specs.declared.state.Label.TheVariants.{Free, Outer, Inner}
use Rattle.blossom_match.specs.Views.{holds, turned, child_at, link_at, label_at}
use Rattle.blossom_match.specs.Between.{after}
use Rattle.blossom_match.specs.Cycles.{IsOpened}

-- a cycle of an odd number of different slots
pub record IsCircle (next : List ℕ) (slots len base : ℕ) : Type 0 where
  pub odd : len % 2 ≡ 1
  pub closes : after next len base ≡ base
  pub in_slots : (k : ℕ) → k < len → after next k base < slots
  pub apart : (j k : ℕ) → j < k → k < len → after next j base ≢ after next k base

-- the nodes from one on are inner and outer in turn
pub record AreLabelled (next : List ℕ) (start count : ℕ) (label label' : List Label) : Type 0 where
  pub inner : (k : ℕ) → k < count → k % 2 ≡ 0 → label_at label' (after next k start) ≡ Inner
  pub outer : (k : ℕ) → k < count → k % 2 ≡ 1 → label_at label' (after next k start) ≡ Outer
  pub off : (t : ℕ) → ((k : ℕ) → k < count → t ≢ after next k start) → label_at label' t ≡ label_at label t

-- each node has the link to the next one as its entry
pub record AreEnteredBack (next : List ℕ) (link : List Pair) (start count : ℕ) (entry entry' : List Pair) : Type 0 where
  pub each : (k : ℕ) → k < count → link_at entry' (after next k start) ≡ link_at link (after next k start)
  pub off : (t : ℕ) → ((k : ℕ) → k < count → t ≢ after next k start) → link_at entry' t ≡ link_at entry t

-- each node has the link from the one before as its entry
pub record AreEnteredOn (next : List ℕ) (link : List Pair) (start count : ℕ) (entry entry' : List Pair) : Type 0 where
  pub each : (k : ℕ) → k < count → link_at entry' (after next (suc k) start) ≡ turned (link_at link (after next k start))
  pub off : (t : ℕ) → ((k : ℕ) → k < count → t ≢ after next (suc k) start) → link_at entry' t ≡ link_at entry t

-- a link between the children at two places, seen from the first
abbrev pub IsStep : List ℕ → List Pair → ℕ → Pair → ℕ → ℕ → Type 0
IsStep next link base e a b =
    ((e ≡ link_at link (after next a base)) × (after next (suc a) base ≡ after next b base))
    ⊎ ((e ≡ turned (link_at link (after next b base))) × (after next (suc b) base ≡ after next a base))

-- two places that are matched with one another
abbrev pub AreMates : ℕ → ℕ → Type 0
AreMates a b = ((a % 2 ≡ 1) × (b ≡ suc a)) ⊎ ((a % 2 ≡ 0) × (a ≡ suc b))

-- an even way along the cycle, from the child that was entered to the base: its children are inner and outer in turn
pub record IsWayIn (next : List ℕ) (link : List Pair) (base from len : ℕ) (e : Pair) (label label' : List Label) (entry entry' : List Pair) : Type 0 where
  pub turns : ℕ
  pub spot : ℕ → ℕ
  pub begins : after next (spot 0) base ≡ from
  pub ends : spot (2 * turns) ≡ 0
  pub in_len : (k : ℕ) → k ≤ 2 * turns → spot k < len
  pub apart : (j k : ℕ) → j < k → k ≤ 2 * turns → spot j ≢ spot k
  pub mates : (i : ℕ) → i < turns → AreMates (spot (2 * i)) (spot (suc (2 * i)))
  pub inner : (i : ℕ) → i ≤ turns → label_at label' (after next (spot (2 * i)) base) ≡ Inner
  pub outer : (i : ℕ) → i < turns → label_at label' (after next (spot (suc (2 * i))) base) ≡ Outer
  pub off : (t : ℕ) → ((k : ℕ) → k ≤ 2 * turns → t ≢ after next (spot k) base) → label_at label' t ≡ label_at label t
  pub entered : link_at entry' from ≡ e
  pub steps : (i : ℕ) → i < turns → IsStep next link base (link_at entry' (after next (spot (suc (suc (2 * i)))) base)) (spot (suc (suc (2 * i)))) (spot (suc (2 * i)))
  pub entries_off : (t : ℕ) → ((k : ℕ) → k ≤ 2 * turns → t ≢ after next (spot k) base) → link_at entry' t ≡ link_at entry t

-- a node is put away, and its children are outermost nodes
pub record IsPutAway (before now : State) (s first len : ℕ) (p : Pair) : Type 0 where
  pub size : now.size ≡ before.size
  pub root : now.root ≡ before.root
  pub halves : now.halves ≡ before.halves
  pub sums : now.sums ≡ before.sums
  pub next : now.next ≡ before.next
  pub link : now.link ≡ before.link
  pub entry : now.entry ≡ before.entry
  pub one_way : now.one_way ≡ before.one_way
  pub other_way : now.other_way ≡ before.other_way
  pub base : now.base ≡ before.base
  pub held_len : length now.held.items ≡ length before.held.items
  pub top_len : length now.top.items ≡ length before.top.items
  pub mate_len : length now.mate.items ≡ length before.mate.items
  pub child_len : length now.child.items ≡ length before.child.items
  pub label_len : length now.label.items ≡ length before.label.items
  pub rows : (t v : ℕ) → v < before.size → t ≢ s → holds before.size now.held.items t v ≡ holds before.size before.held.items t v
  pub row : (v : ℕ) → v < before.size → holds before.size now.held.items s v ≡ false
  pub child : child_at now.child.items s ≡ None
  pub children : (t : ℕ) → t ≢ s → child_at now.child.items t ≡ child_at before.child.items t
  pub label : label_at now.label.items s ≡ Free
  pub labels : (t : ℕ) → t ≢ s → label_at now.label.items t ≡ label_at before.label.items t
  pub opened : IsOpened before.size before.held.items before.next.items before.link.items first len p before.top.items now.top.items before.mate.items now.mate.items
