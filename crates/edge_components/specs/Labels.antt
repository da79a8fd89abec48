-- Components as one label for each vertex: the least vertex of its component.
use Rattle.std.specs.Prelude.{◌≡◌, ℕ, zero, suc, ◌+◌, ◌≤◌, ◌==◌, Bool, true, false, not, ◌&&◌, List, [], ◌∷◌, ◌++◌, length, slice_index, slice_index_or, if◌then◌else◌}
use Rattle.carp_base.specs.Problem.{Problem, IsVertex}
use Rattle.cut_pool.specs.Shores.{required_crossings, touched}
use Rattle.edge_components.specs.Parts.{parts_over}
use Rattle.edge_components.specs.Components.{AreJoined}
use Rattle.edge_components.specs.Listing.{vertices_where}

-- a label for each vertex, the number of a vertex itself; place 0 is not used
pub record AreInRange (p : Problem) (labels : List ℕ) : Type 0 where
  pub long : length labels ≡ p.vertices + 1
  pub within : (v : ℕ) → IsVertex p v → IsVertex p (slice_index labels v)

-- r is the least vertex that is joined to v
pub record IsLeastJoined (p : Problem) (x : List ℕ) (least v r : ℕ) : Type 0 where
  pub joined : AreJoined p x least v r
  pub lowest : (w : ℕ) → IsVertex p w → AreJoined p x least v w → r ≤ w

-- each vertex has the least vertex of its component
pub record AreLabels (p : Problem) (x : List ℕ) (least : ℕ) (labels : List ℕ) : Type 0 where
  pub in_range : AreInRange p labels
  pub each : (v : ℕ) → IsVertex p v → IsLeastJoined p x least v (slice_index labels v)

-- the vertices with a label
abbrev pub has_label : List ℕ → ℕ → ℕ → Bool
has_label labels r v = slice_index labels v == r

-- r is the least vertex of a component without the depot
abbrev pub is_free_label : Problem → List ℕ → ℕ → Bool
is_free_label p labels r = has_label labels r r && not (has_label labels r p.depot)

-- and the component passes the test
abbrev pub is_kept : Problem → List ℕ → List ℕ → (ℕ → ℕ → ℕ → Bool) → ℕ → Bool
is_kept p x labels test r =
    is_free_label p labels r
    && test (required_crossings p (has_label labels r)) (touched p (has_label labels r)) (parts_over p x (has_label labels r))

-- the marks say which components are kept
pub record AreKept (p : Problem) (x labels : List ℕ) (test : ℕ → ℕ → ℕ → Bool) (kept : List Bool) : Type 0 where
  pub long : length kept ≡ p.vertices + 1
  pub marks : (r : ℕ) → IsVertex p r → slice_index_or kept r false ≡ is_kept p x labels test r

-- marked vertices have themselves as their labels
abbrev pub AreRoots : Problem → List ℕ → List Bool → Type 0
AreRoots p labels kept = (r : ℕ) → IsVertex p r → slice_index_or kept r false ≡ true → slice_index labels r ≡ r

-- for each marked vertex up to r, in rising order, the vertices that have it as their label
abbrev pub marked_shores : List ℕ → List Bool → ℕ → ℕ → List (List ℕ)
marked_shores labels kept vertices zero = []
marked_shores labels kept vertices (suc r) =
    marked_shores labels kept vertices r ++ (if slice_index_or kept (suc r) false then vertices_where (has_label labels (suc r)) vertices ∷ [] else [])
