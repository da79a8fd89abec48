-- The matching of all members, once the sets are unfolded, and what is picked for the answer. No public contract speaks of this.
use Rattle.std.specs.Prelude.{◌≡◌, ◌≢◌, ℕ, zero, suc, ◌+◌, ◌*◌, ◌<◌, ◌≤◌, Bool, true, false, if◌then◌else◌, List, [], ◌∷◌, ◌++◌, Option, Some, None, length, slice_index, IsSome}
use Rattle.blossom_match.specs.declared.costs.Costs.{Costs}
use Rattle.blossom_match.specs.declared.state.State.{State}
use Rattle.blossom_match.specs.declared.state.Pair.{Pair}
use Rattle.blossom_match.specs.Matching.{IsPerfect, total}
use Rattle.blossom_match.specs.Table.{cost}
use Rattle.blossom_match.specs.Views.{holds, mate_at, is_used, between}
use Rattle.blossom_match.specs.Between.{AreSets, DoPack, IsShape}

-- one pair alone leads out of a set, at this member
pub record LeadsOutOnce (n : ℕ) (set : ℕ → Bool) (mates : ℕ → ℕ) : Type 0 where
  pub base : ℕ
  pub base_in : base < n
  pub held : set base ≡ true
  pub out : set (mates base) ≡ false
  pub others : (v : ℕ) → v < n → v ≢ base → set v ≡ true → set (mates v) ≡ true

abbrev pub outside_of : Option Pair → ℕ
outside_of None = 0
outside_of (Some p) = p.outside

-- the mate of a member by the pairs of a state
abbrev pub mate_of : State → ℕ → ℕ
mate_of state v = outside_of (mate_at state.mate.items v)

-- the pairs are a perfect matching of tight pairs, and one of them leads out of each used node; the sets pack
pub record IsUnfolded (costs : Costs) (state : State) : Type 0 where
  pub shape : IsShape costs state
  pub each : (v : ℕ) → v < state.size → IsSome (mate_at state.mate.items v)
  pub perfect : IsPerfect state.size (mate_of state)
  pub tight : (v : ℕ) → v < state.size → between state.size state.held.items state.halves.items v (mate_of state v) ≡ 2 * cost costs v (mate_of state v)
  pub once : (s : ℕ) → s < 2 * state.size → is_used state.size state.child.items s ≡ true → LeadsOutOnce state.size (holds state.size state.held.items s) (mate_of state)
  pub sets : AreSets state.size state.held.items state.halves.items state.child.items
  pub packing : DoPack costs state.size state.held.items state.halves.items

-- the members of a set below n, in ascending order, numbered from 1
abbrev pub listed : ℕ → (ℕ → Bool) → List ℕ
listed zero set = []
listed (suc n) set = if set n then listed n set ++ (suc n ∷ []) else listed n set

-- the lists of an answer's sets, and their weights
pub record ArePicked (state : State) (below : ℕ) (starts members weights : List ℕ) : Type 0 where
  pub node : ℕ → ℕ
  pub node_in : (i : ℕ) → i < length weights → node i < below
  pub rising : (i j : ℕ) → i < j → j < length weights → node i < node j
  pub some : (i : ℕ) → i < length weights → 1 ≤ slice_index state.halves.items (node i)
  pub weight : (i : ℕ) → i < length weights → slice_index weights i ≡ slice_index state.halves.items (node i)
  pub starts_len : length starts ≡ length weights + 1
  pub ends : slice_index starts (length weights) ≡ length members
  pub within : (i : ℕ) → i < length weights → slice_index starts (i + 1) ≤ length members
  pub long : (i : ℕ) → i < length weights → slice_index starts (i + 1) ≡ slice_index starts i + length (listed state.size (holds state.size state.held.items (node i)))
  pub row : (i j : ℕ) → i < length weights → slice_index starts i + j < slice_index starts (i + 1) →
      slice_index members (slice_index starts i + j) ≡ slice_index (listed state.size (holds state.size state.held.items (node i))) j
  pub sums : (test : ℕ → Bool) →
      total (length weights) (λ i. if test (node i) then slice_index weights i else 0) ≡ total below (λ s. if test s then slice_index state.halves.items s else 0)
