-- How a shore is kept. No public contract speaks of this.
use Rattle.std.specs.Prelude.{◌≡◌, ℕ, Bool, false, List, slice_index_or}
use Rattle.cut_pool.specs.Shores.{IsShore, is_in}

-- the marks say of each vertex whether it is in the list; past the last mark none is
abbrev pub AreMarks : List ℕ → List Bool → Type 0
AreMarks vertices marks = (v : ℕ) → slice_index_or marks v false ≡ is_in vertices v

-- a rising list of vertices, with its marks
pub record KeepsShore (vertices : List ℕ) (marks : List Bool) : Type 0 where
  pub is_shore : IsShore vertices
  pub are_marks : AreMarks vertices marks
