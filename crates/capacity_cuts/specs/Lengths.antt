-- Distances as numbers, and the ends of levels. No public contract speaks of this.
use Rattle.std.specs.Prelude.{◌≡◌, ◌⊎◌, ℕ, ◌+◌, ◌<◌, ◌≤◌, max, Bool, List, ◌++◌, length, nat_lt, slice_index}
use Rattle.std.specs.List.{Contains}
use Rattle.std.specs.List.Sorted.{IsNonDecreasing}
use Rattle.carp_base.specs.Problem.{Problem, IsVertex}
use Rattle.deadhead_paths.specs.Prices.{NoneLead}
use Rattle.capacity_cuts.specs.Levels.{AreShellsFrom, IsDistance}
use Rattle.cut_pool.specs.declared.shore.Weighted.{Weighted}

-- the distance of the vertex, or 0 where the depot does not reach it
abbrev pub IsLength : Problem → ℕ → ℕ → Type 0
IsLength p v n = IsDistance p v n ⊎ ((n ≡ 0) × NoneLead p p.depot v)

-- the length of each vertex at its place, and 0 at place 0
pub record AreLengths (p : Problem) (lengths : List ℕ) : Type 0 where
  pub long : length lengths ≡ p.vertices + 1
  pub zero : slice_index lengths 0 ≡ 0
  pub each : (v : ℕ) → IsVertex p v → IsLength p v (slice_index lengths v)
  pub small : (v : ℕ) → slice_index lengths v ≤ 1000000000

-- the lengths in order
pub record AreEnds (lengths ends : List ℕ) : Type 0 where
  pub ordered : IsNonDecreasing ends
  pub held : (v : ℕ) → v < length lengths → Contains ends (slice_index lengths v)
  pub real : (k : ℕ) → k < length ends → Contains lengths (slice_index ends k)

-- vertices whose length is above t
abbrev pub is_past : List ℕ → ℕ → ℕ → Bool
is_past lengths t v = nat_lt t (slice_index lengths v)

-- a vertex has the length `end`, and none is between the level and this
pub record IsGap (p : Problem) (lengths : List ℕ) (level end : ℕ) : Type 0 where
  pub less : level < end
  pub place : ℕ
  pub vertex : IsVertex p place
  pub at : slice_index lengths place ≡ end
  pub none : (v : ℕ) → IsVertex p v → (slice_index lengths v ≤ level) ⊎ (end ≤ slice_index lengths v)

-- the shells up to the level go on to the next length, where that is above
pub record GoesOn (p : Problem) (level end next : ℕ) (shells shells' : List Weighted) : Type 0 where
  pub next_is : next ≡ max level end
  pub carries : (before : ℕ) → ((rest : List Weighted) → AreShellsFrom p level rest → AreShellsFrom p before (shells ++ rest)) →
      (rest : List Weighted) → AreShellsFrom p next rest → AreShellsFrom p before (shells' ++ rest)
