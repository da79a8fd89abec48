-- A search for the labels towards one vertex, before it is done. No public contract speaks of this.
use Rattle.std.specs.Prelude.{◌≡◌, ◌≢◌, ℕ, ◌+◌, ◌*◌, ◌<◌, ◌≤◌, Bool, List, ◌∷◌, length, sum, ◌⊎◌, slice_index, slice_set}
use Rattle.std.specs.List.{Contains, All}
use Rattle.std.specs.List.Sorted.{IsPermutation}
use Rattle.std.specs.declared.cmp.Reverse.{Reverse}
use Rattle.carp_base.specs.Problem.{Problem, IsVertex, IsEdgeNumber, edge_at, tail_of, head_of}
use Rattle.deadhead_paths.specs.Table.{unreached, rise_of, Descends}

-- a label with its vertex, as it stands in the queue
abbrev pub QueueEntry : Type 0
QueueEntry = Reverse ℕ × ℕ

abbrev pub queue_entry : ℕ → ℕ → QueueEntry
queue_entry label v = (record { 0 = label }, v)

-- no edge to the vertex can lower the label at its other end
abbrev pub IsSettled : Problem → List ℕ → List ℕ → ℕ → Type 0
IsSettled p prices labels v =
    (e : ℕ) (forward : Bool) → IsEdgeNumber p e → head_of (edge_at p e) forward ≡ v → slice_index labels (tail_of (edge_at p e) forward) ≤ slice_index labels v + rise_of prices e

-- each vertex but one is settled, or waits in the queue with its label
pub record IsLabelling (p : Problem) (prices : List ℕ) (target : ℕ) (labels nexts : List ℕ) (queue : List QueueEntry) (but : ℕ) : Type 0 where
  pub labels_long : length labels ≡ p.vertices + 1
  pub nexts_long : length nexts ≡ p.vertices + 1
  pub unused : slice_index labels 0 ≡ unreached
  pub at_target : slice_index labels target ≡ 0
  pub descends : (v : ℕ) → IsVertex p v → v ≢ target → slice_index labels v < unreached → Descends p prices labels v (slice_index nexts v)
  pub queued : All (λ x. IsVertex p x.1) queue
  pub covers : (v : ℕ) → IsVertex p v → v ≢ but → Contains queue (queue_entry (slice_index labels v) v) ⊎ IsSettled p prices labels v

-- what falls as the search goes on
abbrev pub weight : List ℕ → List QueueEntry → ℕ
weight labels queue = 2 * sum labels + length queue

-- the label at the vertex was lowered, and the vertex queued with it
pub record Lowered (v label next : ℕ) (labels nexts : List ℕ) (queue : List QueueEntry) (labels' nexts' : List ℕ) (queue' : List QueueEntry) : Type 0 where
  pub labels_are : labels' ≡ slice_set labels v label
  pub nexts_are : nexts' ≡ slice_set nexts v next
  pub queue_is : IsPermutation (queue_entry label v ∷ queue) queue'

-- nothing was changed
pub record Unchanged (labels nexts : List ℕ) (queue : List QueueEntry) (labels' nexts' : List ℕ) (queue' : List QueueEntry) : Type 0 where
  pub labels_are : labels' ≡ labels
  pub nexts_are : nexts' ≡ nexts
  pub queue_is : queue' ≡ queue
