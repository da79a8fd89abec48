-- Sets of vertices as rising lists.
use Rattle.std.specs.Prelude.{◌≡◌, ℕ, zero, suc, Bool, List, [], ◌∷◌, ◌++◌, if◌then◌else◌}
use Rattle.std.specs.List.{All}
use Rattle.std.specs.List.Sorted.{IsStrictlyIncreasing}
use Rattle.carp_base.specs.Problem.{Problem, IsVertex}
use Rattle.cut_pool.specs.Shores.{is_in}

-- of the numbers 1 to n those that pass a test, rising
abbrev pub vertices_where : (ℕ → Bool) → ℕ → List ℕ
vertices_where inside zero = []
vertices_where inside (suc n) = vertices_where inside n ++ (if inside (suc n) then suc n ∷ [] else [])

-- a rising list of just the vertices that pass a test
pub record ListsVertices (p : Problem) (inside : ℕ → Bool) (vertices : List ℕ) : Type 0 where
  pub rising : IsStrictlyIncreasing vertices
  pub within : All (IsVertex p) vertices
  pub same : (v : ℕ) → IsVertex p v → is_in vertices v ≡ inside v
