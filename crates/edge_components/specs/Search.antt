-- A search that labels the vertices of one component after another. No public contract speaks of this.
use Rattle.std.specs.Prelude.{◌≡◌, ◌⊎◌, ℕ, ◌+◌, ◌*◌, ◌<◌, ◌≤◌, ◌==◌, Bool, List, length, slice_index, count_by}
use Rattle.std.specs.List.{Contains}
use Rattle.carp_base.specs.Problem.{Problem, IsVertex, IsEdgeNumber, edge_at, tail_of, head_of}
use Rattle.road_network.specs.Incidence.{far_end}
use Rattle.edge_components.specs.Parts.{parts_of}
use Rattle.edge_components.specs.Components.{AreJoined}

-- the vertex may have this label
pub record MayHave (p : Problem) (x : List ℕ) (least v r : ℕ) : Type 0 where
  pub vertex : IsVertex p v
  pub root : IsVertex p r
  pub low : r ≤ v
  pub joined : AreJoined p x least v r

-- what the strong edges at a vertex lead to has its label
abbrev pub IsClosed : Problem → List ℕ → ℕ → List ℕ → ℕ → Type 0
IsClosed p x least labels v =
    (e : ℕ) (forward : Bool) → IsEdgeNumber p e → least ≤ parts_of x e → tail_of (edge_at p e) forward ≡ v →
    slice_index labels (head_of (edge_at p e) forward) ≡ slice_index labels v

-- labels so far, 0 where there is none: each vertex before `root` has one. Those vertices wait whose edges are to be gone through, all
-- in the component of `root`; `at` is the vertex whose edges are being gone through, and 0 where there is none
pub record IsSearch (p : Problem) (x : List ℕ) (least root : ℕ) (labels waiting : List ℕ) (at : ℕ) : Type 0 where
  pub long : length labels ≡ p.vertices + 1
  pub sound : (v : ℕ) → 1 ≤ slice_index labels v → MayHave p x least v (slice_index labels v)
  pub before : (v : ℕ) → 1 ≤ v → v < root → 1 ≤ slice_index labels v
  pub rooted : (v : ℕ) → Contains waiting v → slice_index labels v ≡ root
  pub closed : (v : ℕ) → 1 ≤ slice_index labels v → Contains waiting v ⊎ ((v ≡ at) ⊎ IsClosed p x least labels v)

-- twice the vertices without label, and those that wait
abbrev pub work_left : List ℕ → List ℕ → ℕ
work_left labels waiting = 2 * count_by (λ label. label == 0) labels + length waiting

-- labels stay
abbrev pub KeepsLabels : List ℕ → List ℕ → Type 0
KeepsLabels labels labels' = (v : ℕ) → 1 ≤ slice_index labels v → slice_index labels' v ≡ slice_index labels v

-- an edge at the vertex whose edges are gone through was looked at: where it is strong, its other end has the label
pub record IsGoneOver (p : Problem) (x : List ℕ) (least root v e : ℕ) (labels waiting labels' waiting' : List ℕ) : Type 0 where
  pub search : IsSearch p x least root labels' waiting' v
  pub keeps : KeepsLabels labels labels'
  pub less : work_left labels' waiting' ≤ work_left labels waiting
  pub over : least ≤ parts_of x e → slice_index labels' (far_end v (edge_at p e)) ≡ root
