-- What holds while sets are unfolded. No public contract speaks of this.
use Rattle.std.specs.Prelude.{◌≡◌, ◌≢◌, ◌⊎◌, ℕ, ◌*◌, ◌<◌, Bool, true, false, List, slice_index, Option, Some, IsSomeAnd}
use Rattle.blossom_match.specs.declared.costs.Costs.{Costs}
use Rattle.blossom_match.specs.declared.state.State.{State}
use Rattle.blossom_match.specs.declared.state.Pair.{Pair}
use Rattle.blossom_match.specs.Table.{cost}
use Rattle.blossom_match.specs.Views.{holds, turned, mate_at, is_used, between}
use Rattle.blossom_match.specs.Between.{AreSets, AreCycles, DoPack, IsShape}

-- each member is in one outermost node
pub record AreParts (n : ℕ) (held : List Bool) (top : List ℕ) : Type 0 where
  pub top_in : (v : ℕ) → v < n → slice_index top v < 2 * n
  pub own : (v : ℕ) → v < n → holds n held (slice_index top v) v ≡ true
  pub same : (v w : ℕ) → v < n → w < n → holds n held (slice_index top v) w ≡ true → slice_index top w ≡ slice_index top v

-- the pair by which an outermost node is matched, tight by the weights between
pub record IsPaired (costs : Costs) (n : ℕ) (held : List Bool) (halves top : List ℕ) (mate : List (Option Pair)) (s : ℕ) (p : Pair) : Type 0 where
  pub inside_in : p.inside < n
  pub outside_in : p.outside < n
  pub here : slice_index top p.inside ≡ s
  pub apart : slice_index top p.outside ≢ s
  pub tight : between n held halves p.inside p.outside ≡ 2 * cost costs p.inside p.outside
  pub back : mate_at mate (slice_index top p.outside) ≡ Some (turned p)

abbrev pub ArePairedTops : Costs → ℕ → List Bool → List ℕ → List ℕ → List (Option Pair) → Type 0
ArePairedTops costs n held halves top mate = (v : ℕ) → v < n → IsSomeAnd (mate_at mate (slice_index top v)) (IsPaired costs n held halves top mate (slice_index top v))

-- a set in one outermost node
abbrev pub IsAlike : ℕ → (ℕ → Bool) → List ℕ → Type 0
IsAlike n set top = (v w : ℕ) → v < n → w < n → set v ≡ true → set w ≡ true → slice_index top v ≡ slice_index top w

-- a set of outermost nodes, one of them matched with a node outside
pub record IsLedOut (n : ℕ) (set : ℕ → Bool) (top : List ℕ) (mate : List (Option Pair)) : Type 0 where
  pub base : ℕ
  pub base_in : base < n
  pub held : set base ≡ true
  pub pair : Pair
  pub is : mate_at mate (slice_index top base) ≡ Some pair
  pub out : set pair.outside ≡ false
  pub others : (v : ℕ) (p : Pair) → v < n → set v ≡ true → slice_index top v ≢ slice_index top base → mate_at mate (slice_index top v) ≡ Some p → set p.outside ≡ true
  pub whole : (v w : ℕ) → v < n → w < n → set v ≡ true → slice_index top w ≡ slice_index top v → set w ≡ true

abbrev pub AreLedOut : ℕ → List Bool → List (Option ℕ) → List ℕ → List (Option Pair) → Type 0
AreLedOut n held child top mate = (s : ℕ) → s < 2 * n → is_used n child s ≡ true → IsAlike n (holds n held s) top ⊎ IsLedOut n (holds n held s) top mate

pub record IsUnfolding (costs : Costs) (state : State) : Type 0 where
  pub shape : IsShape costs state
  pub sets : AreSets state.size state.held.items state.halves.items state.child.items
  pub cycles : AreCycles costs state.size state.held.items state.halves.items state.child.items state.next.items state.link.items
  pub packing : DoPack costs state.size state.held.items state.halves.items
  pub parts : AreParts state.size state.held.items state.top.items
  pub matched : ArePairedTops costs state.size state.held.items state.halves.items state.top.items state.mate.items
  pub once : AreLedOut state.size state.held.items state.child.items state.top.items state.mate.items
