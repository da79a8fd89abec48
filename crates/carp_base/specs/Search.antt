-- The search from the depot: the streets out of a vertex, and what has been found so far. No public contract speaks of this.
use Rattle.std.specs.Prelude.{◌≡◌, ◌≢◌, ℕ, ◌+◌, ◌-◌, ◌*◌, ◌/◌, ◌%◌, ◌<◌, ◌≤◌, ◌==◌, Bool, not, false, IsTrue, List, length, count_by, slice_index, slice_index_or}
use Rattle.carp_base.specs.declared.edge.Edge.{Edge}
use Rattle.carp_base.specs.Problem.{Problem, IsRequired, IsReached, edge_at, no_edge, tail_of, head_of}

-- the vertex that an arc leaves: of the edge at place k, arc 2 k leads forward and arc 2 k + 1 backward
abbrev pub arc_tail : List Edge → ℕ → ℕ
arc_tail edges arc = tail_of (slice_index_or edges (arc / 2) no_edge) (arc % 2 == 0)

-- the vertex that an arc enters
abbrev pub arc_head : List Edge → ℕ → ℕ
arc_head edges arc = head_of (slice_index_or edges (arc / 2) no_edge) (arc % 2 == 0)

-- the ends of all arcs are vertices
abbrev pub EndsWithin : List Edge → ℕ → Type 0
EndsWithin edges vertices = (arc : ℕ) → arc < 2 * length edges → (arc_tail edges arc ≤ vertices) × (arc_head edges arc ≤ vertices)

-- the link is one more than the last arc below `end` that leaves the vertex, or 0 where none does
pub record IsLink (edges : List Edge) (v end link : ℕ) : Type 0 where
  pub within : link ≤ end
  pub leaves : 0 < link → arc_tail edges (link - 1) ≡ v
  pub last : (arc : ℕ) → link ≤ arc → arc < end → arc_tail edges arc ≢ v

-- from its first link, and then from the arc of each link, all arcs below `end` that leave a vertex are found
pub record AreChains (edges : List Edge) (vertices end : ℕ) (first next : List ℕ) : Type 0 where
  pub starts : length first ≡ vertices + 1
  pub arcs : length next ≡ end
  pub at_vertex : (v : ℕ) → v ≤ vertices → IsLink edges v end (slice_index first v)
  pub at_arc : (arc : ℕ) → arc < end → IsLink edges (arc_tail edges arc) arc (slice_index next arc)

-- the vertex is marked
abbrev pub IsMarked : List Bool → ℕ → Type 0
IsMarked marks v = IsTrue (slice_index_or marks v false)

-- the marked vertices are listed in the order in which they were found, and all are reached
pub record IsSearch (p : Problem) (marks : List Bool) (order : List ℕ) : Type 0 where
  pub long : length marks ≡ p.vertices + 1
  pub counted : count_by not marks + length order ≡ p.vertices + 1
  pub found : (v : ℕ) → IsMarked marks v → (k : ℕ) × (k < length order) × (slice_index order k ≡ v)
  pub marked : (k : ℕ) → k < length order → IsMarked marks (slice_index order k)
  pub reached : (k : ℕ) → k < length order → IsReached p (slice_index order k)

-- what was found before stays found, at its place
pub record Extends (marks_before : List Bool) (order_before : List ℕ) (marks : List Bool) (order : List ℕ) : Type 0 where
  pub stays_marked : (v : ℕ) → IsMarked marks_before v → IsMarked marks v
  pub grows : length order_before ≤ length order
  pub stays : (k : ℕ) → k < length order_before → slice_index order k ≡ slice_index order_before k

-- each arc out of the vertex leads to a marked vertex
abbrev pub LeadsToMarks : List Edge → ℕ → List Bool → Type 0
LeadsToMarks edges v marks = (arc : ℕ) → arc < 2 * length edges → arc_tail edges arc ≡ v → IsMarked marks (arc_head edges arc)

-- exactly the vertices that are reached are marked
pub record MarksReached (p : Problem) (marks : List Bool) : Type 0 where
  pub long : length marks ≡ p.vertices + 1
  pub reached : (v : ℕ) → IsMarked marks v → IsReached p v
  pub all : (v : ℕ) → IsReached p v → IsMarked marks v

-- a path leads to each required edge
abbrev pub AreReached : Problem → Type 0
AreReached p = (e : ℕ) → IsRequired p e → IsReached p (edge_at p e).u

-- the edge's first end is not marked
abbrev pub is_cut_off : List Bool → Edge → Bool
is_cut_off marks x = not (slice_index_or marks x.u false)
