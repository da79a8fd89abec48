-- Levels of odd sets as shores with weights, equal ones taken together. No public contract speaks of this.
use Rattle.std.specs.Prelude.{◌≡◌, ◌≢◌, ◌⊎◌, ℕ, ◌+◌, ◌<◌, ◌≤◌, Bool, not, nat_le, List, [], if◌then◌else◌, length, pos, slice_index, slice_index_or, slice_set}
use Rattle.std.specs.List.{All, Contains}
use Rattle.std.specs.List.Sorted.{IsNonDecreasing}
use Rattle.carp_base.specs.declared.edge.Edge.{Edge}
use Rattle.carp_base.specs.Problem.{Problem, IsVertex, IsEdgeNumber, edge_at}
use Rattle.plan_model.specs.Plans.{crosses}
use Rattle.cut_pool.specs.declared.shore.Weighted.{Weighted}
use Rattle.cut_pool.specs.Shores.{is_in}
use Rattle.edge_components.specs.Listing.{vertices_where}
use Rattle.matching_duals.specs.Joins.{halves, halves_over, all_halves, AreDifferent}
use Rattle.matching_duals.specs.OddSets.{OddSet, StandsIn, side_of, level, levels_over, set_halves, count_below}

-- the list is a level, on the side without the depot
pub record IsLevel (p : Problem) (d : ℕ → ℕ → ℕ) (sets : List OddSet) (shore : List ℕ) : Type 0 where
  pub set : OddSet
  pub smaller : List OddSet
  pub number : ℕ
  pub stands : StandsIn sets set smaller
  pub below : number < set.halves
  pub same : shore ≡ vertices_where (side_of p (level d set smaller number)) p.vertices

-- the weight is a number above 0
pub record IsPositive (s : Weighted) : Type 0 where
  pub natural : s.weight ≡ pos (halves s)
  pub some : 1 ≤ halves s

-- the shores are the levels, with equal ones taken together
pub record AreLevels (p : Problem) (d : ℕ → ℕ → ℕ) (sets : List OddSet) (shores : List Weighted) : Type 0 where
  pub each : All (λ s. IsLevel p d sets s.shore) shores
  pub over : (e : ℕ) → IsEdgeNumber p e → halves_over shores (edge_at p e) ≡ levels_over d sets (edge_at p e)
  pub all : all_halves shores ≡ set_halves sets

-- each weight is above 0, and the shores are different
pub record AreJoined (shores : List Weighted) : Type 0 where
  pub positive : All IsPositive shores
  pub different : AreDifferent shores

-- the shore stands in the list
pub record Stands (shores : List Weighted) (shore : List ℕ) : Type 0 where
  pub place : ℕ
  pub below : place < length shores
  pub same : (d : Weighted) → (slice_index_or shores place d).shore ≡ shore

-- it stands at this place
pub record IsStanding (shores : List Weighted) (shore : List ℕ) (place : ℕ) : Type 0 where
  pub below : place < length shores
  pub same : (d : Weighted) → (slice_index_or shores place d).shore ≡ shore

-- a shore whose weight rose
abbrev pub raised : Weighted → ℕ → Weighted
raised s more = record { shore = s.shore; weight = pos (halves s + more) }

-- the weight of the shore at a place rose
abbrev pub IsRaised : List Weighted → ℕ → ℕ → List Weighted → Type 0
IsRaised before place more after = (d : Weighted) → after ≡ slice_set before place (raised (slice_index_or before place d) more)

-- the weight of a shore rose, or the shore was added
pub record IsAdded (before : List Weighted) (shore : List ℕ) (more : ℕ) (after : List Weighted) : Type 0 where
  pub joined : AreJoined after
  pub over : (x : Edge) → halves_over after x ≡ halves_over before x + (if crosses (is_in shore) x then more else 0)
  pub all : all_halves after ≡ all_halves before + more
  pub each : All (λ s. (s.shore ≡ shore) ⊎ Stands before s.shore) after

-- a vertex lies on the side of a level, by the depths of all vertices: the side without the depot
abbrev pub on_side : List ℕ → ℕ → ℕ → ℕ → Bool
on_side depths t depot v = if nat_le (slice_index depths depot) t then not (nat_le (slice_index depths v) t) else nat_le (slice_index depths v) t

-- the side of a level as a list
abbrev pub side_list : Problem → List ℕ → ℕ → List ℕ
side_list p depths t = vertices_where (on_side depths t p.depot) p.vertices

-- the list is the side of a level below a bound
pub record IsSide (p : Problem) (depths : List ℕ) (bound : ℕ) (shore : List ℕ) : Type 0 where
  pub number : ℕ
  pub below : number < bound
  pub same : shore ≡ side_list p depths number

-- the sides of the levels from one number below another were added, each with one half
pub record Adds (p : Problem) (depths : List ℕ) (from to : ℕ) (before after : List Weighted) : Type 0 where
  pub joined : AreJoined after
  pub over : (e : ℕ) → IsEdgeNumber p e →
      halves_over after (edge_at p e) + count_below from (λ t. crosses (on_side depths t p.depot) (edge_at p e))
      ≡ halves_over before (edge_at p e) + count_below to (λ t. crosses (on_side depths t p.depot) (edge_at p e))
  pub all : all_halves after + from ≡ all_halves before + to
  pub each : All (λ s. IsSide p depths to s.shore ⊎ Stands before s.shore) after

-- the depths and the weight, in order
pub record AreEnds (depths : List ℕ) (weight : ℕ) (ends : List ℕ) : Type 0 where
  pub ordered : IsNonDecreasing ends
  pub held : (v : ℕ) → v < length depths → Contains ends (slice_index depths v)
  pub last : Contains ends weight
  pub most : (k : ℕ) → k < length ends → slice_index ends k ≤ weight

-- no side of a level below the weight is empty
abbrev pub AreSides : Problem → List ℕ → ℕ → Type 0
AreSides p depths weight = (t : ℕ) → t < weight → side_list p depths t ≢ []

-- no vertex has a depth between the two numbers
abbrev pub IsGap : Problem → List ℕ → ℕ → ℕ → Type 0
IsGap p depths from to = (v : ℕ) → IsVertex p v → (slice_index depths v ≤ from) ⊎ (to ≤ slice_index depths v)
