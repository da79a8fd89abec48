-- Groups that are being filled. No public contract speaks of this.
use Rattle.std.specs.Prelude.{◌≡◌, ◌≢◌, ℕ, zero, suc, ◌+◌, ◌-◌, ◌^◌, ◌<◌, ◌≤◌, ◌==◌, List, [], ◌∷◌, ◌++◌, if◌then◌else◌, length, slice_index, map}
use Rattle.std.specs.List.{All}
use Rattle.std.specs.List.Sorted.{IsNonDecreasingBy, IsPermutation}
use Rattle.carp_base.specs.Problem.{Problem, IsRequired}
use Rattle.carp_base.specs.Packings.{IsGroup, IsPacking, group_of, group_load}
use Rattle.fleet_pack.specs.declared.item.Item.{Item}
use Rattle.fleet_pack.specs.declared.grouping.Grouping.{Grouping}
use Rattle.fleet_pack.specs.FirstFit.{demand_of, put_demand}

-- the groups of a grouping are a packing
abbrev pub IsGrouping : Problem → Grouping → Type 0
IsGrouping p grouping = IsPacking p grouping.groups.items grouping.count

-- the edges from 1 to n, each with its demand
abbrev pub numbered : Problem → ℕ → List Item
numbered p zero = []
numbered p (suc n) = numbered p n ++ record { edge = suc n; demand = demand_of p (suc n) } ∷ []

-- the demands fall along the items
abbrev pub Fall : List Item → Type 0
Fall items = IsNonDecreasingBy (λ x. 2 ^ 64 - 1 - x.demand) items

-- the items are the required edges by falling demand
pub record AreFalling (p : Problem) (items : List Item) : Type 0 where
  pub same : IsPermutation (numbered p p.required) items
  pub fall : Fall items

-- an item is a required edge with its demand
pub record IsItem (p : Problem) (x : Item) : Type 0 where
  pub required : IsRequired p x.edge
  pub demand_is : x.demand ≡ demand_of p x.edge
  pub fits : x.demand ≤ p.capacity

-- how often an edge is among the items
abbrev pub times : ℕ → List Item → ℕ
times e [] = 0
times e (x ∷ items) = (if x.edge == e then 1 else 0) + times e items

abbrev pub demands_of : List Item → List ℕ
demands_of items = map (λ x. x.demand) items

-- where the first group with room for a demand stands, or their number
pub record IsFirstRoom (capacity demand : ℕ) (loads : List ℕ) (place : ℕ) : Type 0 where
  pub within : place ≤ length loads
  pub full : (k : ℕ) → k < place → capacity < slice_index loads k + demand
  pub room : place < length loads → slice_index loads place + demand ≤ capacity

-- a demand went into the group at a place, which was the first with room, or is a new one
pub record IsPut (capacity demand : ℕ) (before after : List ℕ) (place : ℕ) : Type 0 where
  pub within : place < length after
  pub no_fewer : length before ≤ length after
  pub one_more : length after ≤ length before + 1
  pub here : slice_index after place ≡ slice_index before place + demand
  pub fits : slice_index after place ≤ capacity
  pub others : (k : ℕ) → k < length after → k ≢ place → (k < length before) × (slice_index after k ≡ slice_index before k)
  pub is : after ≡ put_demand capacity demand before

-- the loads are those of the groups
pub record AreLoads (p : Problem) (groups loads : List ℕ) : Type 0 where
  pub are : (k : ℕ) → k < length loads → slice_index loads k ≡ group_load p groups (k + 1)
  pub filled : (k : ℕ) → k < length loads → (e : ℕ) × IsRequired p e × (group_of groups e ≡ k + 1)
  pub light : (k : ℕ) → k < length loads → slice_index loads k ≤ p.capacity

-- these items are still without a group, all other required edges have one, and the loads are those of the groups
pub record IsPlaced (p : Problem) (left : List Item) (groups loads : List ℕ) : Type 0 where
  pub one_each : length groups ≡ p.required
  pub few : length loads + length left ≤ p.required
  pub each : All (IsItem p) left
  pub once : (e : ℕ) → times e left ≤ 1
  pub free : (e : ℕ) → times e left ≡ 1 → group_of groups e ≡ 0
  pub placed : (e : ℕ) → IsRequired p e → times e left ≡ 0 → IsGroup (length loads) (group_of groups e)
  pub loaded : AreLoads p groups loads

-- each load but that at place 0 is above 0 and at most the capacity
abbrev pub AreFineLoads : ℕ → List ℕ → Type 0
AreFineLoads capacity loads = (k : ℕ) → 1 ≤ k → k < length loads → (1 ≤ slice_index loads k) × (slice_index loads k ≤ capacity)
