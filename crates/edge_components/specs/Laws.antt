-- Laws of sets of vertices by tests, and of components by labels.
use Rattle.std.specs.Prelude.{◌≡◌, ℕ, Bool, List}
use Rattle.carp_base.specs.Problem.{Problem, IsValid, IsVertex}
use Rattle.cut_pool.specs.Shores.{required_crossings, touched}
use Rattle.edge_components.specs.Parts.{parts_over}
use Rattle.edge_components.specs.Components.{AreAll, PassesTest}
use Rattle.edge_components.specs.Labels.{AreLabels, AreKept, AreRoots, marked_shores}
use Rattle.edge_components.specs.Listing.{vertices_where, ListsVertices}

-- the list of the vertices that pass a test is rising and holds just these
abbrev pub VerticesAreListed : Type 0
VerticesAreListed = (p : Problem) (inside : ℕ → Bool) → ListsVertices p inside (vertices_where inside p.vertices)

-- the same edges cross both sets, and the same demand touches them
pub record HaveOneBorder (p : Problem) (x : List ℕ) (f g : ℕ → Bool) : Type 0 where
  pub crossings : required_crossings p f ≡ required_crossings p g
  pub demand : touched p f ≡ touched p g
  pub parts : parts_over p x f ≡ parts_over p x g

-- tests that agree at the vertices of a valid instance have one border
abbrev pub EqualSetsHaveOneBorder : Type 0
EqualSetsHaveOneBorder =
    (p : Problem) (x : List ℕ) (f g : ℕ → Bool) → IsValid p → ((v : ℕ) → IsVertex p v → f v ≡ g v) → HaveOneBorder p x f g

-- the shores of the kept labels are just the components without the depot that pass the test
abbrev pub KeptLabelsAreComponents : Type 0
KeptLabelsAreComponents =
    (p : Problem) (x : List ℕ) (least : ℕ) (labels : List ℕ) (test : ℕ → ℕ → ℕ → Bool) (kept : List Bool) →
    IsValid p → AreLabels p x least labels → AreKept p x labels test kept →
    AreAll (PassesTest p x least test) (marked_shores labels kept p.vertices p.vertices)

-- kept labels are their own
abbrev pub KeptLabelsAreRoots : Type 0
KeptLabelsAreRoots =
    (p : Problem) (x labels : List ℕ) (test : ℕ → ℕ → ℕ → Bool) (kept : List Bool) → AreKept p x labels test kept → AreRoots p labels kept
