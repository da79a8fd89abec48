-- What stops the weights, and what a raise does. No public contract speaks of this.
use Rattle.std.specs.Prelude.{◌≡◌, ◌≢◌, ℕ, ◌+◌, ◌*◌, ◌-◌, ◌<◌, ◌≤◌, slice_index, length}
use Rattle.blossom_match.specs.declared.costs.Costs.{Costs}
use Rattle.blossom_match.specs.declared.state.State.{State}
use Rattle.blossom_match.specs.declared.state.Label.{Label}
use Rattle.blossom_match.specs.declared.state.Label.TheVariants.{Free, Outer, Inner}
use Rattle.blossom_match.specs.declared.room.Event.{Event}
use Rattle.blossom_match.specs.declared.room.Event.TheVariants.{Reach, Meet, Spent}
use Rattle.blossom_match.specs.declared.costs.TheConstants.{MAX_COST}
use Rattle.blossom_match.specs.Table.{cost}
use Rattle.blossom_match.specs.Views.{label_at}

-- the outermost node of a member, the kept sum at it, and the label of a node
abbrev pub top_of : State → ℕ → ℕ
top_of state v = slice_index state.top.items v

abbrev pub sum_of : State → ℕ → ℕ
sum_of state v = slice_index state.sums.items v

abbrev pub label_of : State → ℕ → Label
label_of state s = label_at state.label.items s

-- the weights of the tree may be moved by this amount
pub record IsLawful (costs : Costs) (state : State) (amount : ℕ) : Type 0 where
  pub meets : (u v : ℕ) → u < state.size → v < state.size → top_of state u ≢ top_of state v → label_of state (top_of state u) ≡ Outer → label_of state (top_of state v) ≡ Outer →
      sum_of state u + sum_of state v + 2 * amount ≤ 2 * cost costs u v
  pub reaches : (u v : ℕ) → u < state.size → v < state.size → label_of state (top_of state u) ≡ Outer → label_of state (top_of state v) ≡ Free → sum_of state u + sum_of state v + amount ≤ 2 * cost costs u v
  pub enough : (s : ℕ) → s < 2 * state.size → label_of state s ≡ Inner → amount ≤ slice_index state.halves.items s
  pub fits : (v : ℕ) → v < state.size → label_of state (top_of state v) ≡ Outer → sum_of state v + amount ≤ 2 * MAX_COST

pub record IsReach (costs : Costs) (state : State) (amount u v : ℕ) : Type 0 where
  pub u_in : u < state.size
  pub v_in : v < state.size
  pub outer : label_of state (top_of state u) ≡ Outer
  pub free : label_of state (top_of state v) ≡ Free
  pub full : sum_of state u + sum_of state v + amount ≡ 2 * cost costs u v

pub record IsMeet (costs : Costs) (state : State) (amount u v : ℕ) : Type 0 where
  pub u_in : u < state.size
  pub v_in : v < state.size
  pub apart : top_of state u ≢ top_of state v
  pub u_outer : label_of state (top_of state u) ≡ Outer
  pub v_outer : label_of state (top_of state v) ≡ Outer
  pub full : sum_of state u + sum_of state v + 2 * amount ≡ 2 * cost costs u v

pub record IsSpent (state : State) (amount s : ℕ) : Type 0 where
  pub larger : state.size ≤ s
  pub in_slots : s < 2 * state.size
  pub inner : label_of state s ≡ Inner
  pub all : slice_index state.halves.items s ≡ amount

-- what happens once the weights are moved by this amount
abbrev pub Happens : Costs → State → ℕ → Event → Type 0
Happens costs state amount (Reach u v) = IsReach costs state amount u v
Happens costs state amount (Meet u v) = IsMeet costs state amount u v
Happens costs state amount (Spent s) = IsSpent state amount s

-- a number at a node with this label, or at a member of it, once the weights are moved
abbrev pub moved : Label → ℕ → ℕ → ℕ
moved Free x amount = x
moved Outer x amount = x + amount
moved Inner x amount = x - amount

-- the weights of the tree are moved by an amount, and all else stays
pub record IsMoved (amount : ℕ) (before now : State) : Type 0 where
  pub size : now.size ≡ before.size
  pub root : now.root ≡ before.root
  pub held : now.held.items ≡ before.held.items
  pub top : now.top.items ≡ before.top.items
  pub child : now.child.items ≡ before.child.items
  pub next : now.next.items ≡ before.next.items
  pub link : now.link.items ≡ before.link.items
  pub mate : now.mate.items ≡ before.mate.items
  pub label : now.label.items ≡ before.label.items
  pub entry : now.entry.items ≡ before.entry.items
  pub one_way : now.one_way.items ≡ before.one_way.items
  pub other_way : now.other_way.items ≡ before.other_way.items
  pub base : now.base.items ≡ before.base.items
  pub halves_len : length now.halves.items ≡ length before.halves.items
  pub sums_len : length now.sums.items ≡ length before.sums.items
  pub halves : (s : ℕ) → s < 2 * before.size → slice_index now.halves.items s ≡ moved (label_of before s) (slice_index before.halves.items s) amount
  pub sums : (v : ℕ) → v < before.size → sum_of now v ≡ moved (label_of before (top_of before v)) (sum_of before v) amount

-- the number can be moved, and fits
abbrev pub FitsMoved : Label → ℕ → ℕ → Type 0
FitsMoved Free x amount = Unit {0}
FitsMoved Outer x amount = x + amount < 18446744073709551616
FitsMoved Inner x amount = amount ≤ x
