-- A search from the depot, as the vertices that it found. No public contract speaks of this.
use Rattle.std.specs.Prelude.{◌≡◌, ℕ, ◌+◌, ◌<◌, ◌≤◌, Bool, true, false, List, length, slice_index, slice_index_or, count_by}
use Rattle.std.specs.List.{Contains}
use Rattle.carp_base.specs.Problem.{Problem, IsVertex, IsReached, IsEdgeNumber, edge_at, tail_of, head_of}

-- the vertices found so far, and the same as one mark for each vertex
pub record IsFound (p : Problem) (reached : List Bool) (found : List ℕ) : Type 0 where
  pub long : length reached ≡ p.vertices + 1
  pub counted : length found ≡ count_by (λ b. b) reached
  pub vertices : (k : ℕ) → k < length found → IsVertex p (slice_index found k)
  pub sound : (k : ℕ) → k < length found → IsReached p (slice_index found k)
  pub marked : (k : ℕ) → k < length found → slice_index_or reached (slice_index found k) false ≡ true
  pub listed : (w : ℕ) → slice_index_or reached w false ≡ true → Contains found w

-- marks and places stay as the search goes on
pub record Grows (reached : List Bool) (found : List ℕ) (reached' : List Bool) (found' : List ℕ) : Type 0 where
  pub marks : (w : ℕ) → slice_index_or reached w false ≡ true → slice_index_or reached' w false ≡ true
  pub longer : length found ≤ length found'
  pub places : (k : ℕ) → k < length found → slice_index found' k ≡ slice_index found k

-- both ends of each edge at the vertex are marked
abbrev pub ReachesAll : Problem → List Bool → ℕ → Type 0
ReachesAll p reached v = (e : ℕ) (forward : Bool) → IsEdgeNumber p e → tail_of (edge_at p e) forward ≡ v → slice_index_or reached (head_of (edge_at p e) forward) false ≡ true
