-- The vertices that pass a test, where there are some, are a shore.
use Rattle.std.proofs.Common.{◌≡◌, ℕ, zero, suc, ◌==◌, ◌<◌, Bool, false, List, length, sym, ◌∙◌, ap, arith}
use Rattle.std.proofs.lemmas.Bool.{false≢true}
use Rattle.carp_base.specs.Problem.{Problem}
use Rattle.cut_pool.specs.Shores.{IsShore}
use Rattle.edge_components.specs.Laws.{VerticesAreListed}
use Rattle.edge_components.specs.Listing.{vertices_where}

pub is_some : (n : ℕ) → (n == 0) ≡ false → 0 < n
is_some zero none = absurd (false≢true (sym none))
is_some (suc n) some = omega arith

pub is_shore : VerticesAreListed → (p : Problem) (inside : ℕ → Bool) (vertices list : List ℕ) → vertices ≡ vertices_where inside p.vertices → list ≡ vertices →
    0 < length list → IsShore list
is_shore law p inside vertices list is same long =
    rw (same ∙ is) (record { some = λ none. omega (arith, long, ap length (same ∙ is ∙ none)); rising = (law p inside).rising })
