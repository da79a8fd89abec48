-- Packings: required edges in groups that one vehicle each can carry (the bin packing problem; Martello and Toth 1990, chapter 8).
use Rattle.std.specs.Prelude.{◌≡◌, ℕ, zero, suc, ◌+◌, ◌≤◌, ◌==◌, List, if◌then◌else◌, length, slice_index}
use Rattle.carp_base.specs.Problem.{Problem, IsRequired, edge_at}

-- the group of the edge of a number from 1, where the groups stand in the order of the edges; no edge 0 lies in a group
abbrev pub group_of : List ℕ → ℕ → ℕ
group_of groups zero = 0
group_of groups (suc k) = slice_index groups k

-- the number of a group
pub record IsGroup (count : ℕ) (g : ℕ) : Type 0 where
  pub from_one : 1 ≤ g
  pub in_range : g ≤ count

-- the demand of those of the edges from 1 to n that lie in a group
abbrev pub demand_in : Problem → List ℕ → ℕ → ℕ → ℕ
demand_in p groups g zero = 0
demand_in p groups g (suc n) = demand_in p groups g n + (if group_of groups (suc n) == g then (edge_at p (suc n)).demand else 0)

-- the demand of a group
abbrev pub group_load : Problem → List ℕ → ℕ → ℕ
group_load p groups g = demand_in p groups g p.required

-- each required edge lies in a group from 1 to the count, no group is empty, and none is above the capacity
pub record IsPacking (p : Problem) (groups : List ℕ) (count : ℕ) : Type 0 where
  pub one_each : length groups ≡ p.required
  pub placed : (e : ℕ) → IsRequired p e → IsGroup count (group_of groups e)
  pub none_empty : (g : ℕ) → IsGroup count g → (e : ℕ) × IsRequired p e × (group_of groups e ≡ g)
  pub loads : (g : ℕ) → IsGroup count g → group_load p groups g ≤ p.capacity
