use Rattle.std.proofs.Common.{◌≡◌, false}
use Rattle.std.specs.Prelude.{slice_index_or}
use Rattle.edge_components.specs.Listing.{vertices_where}
use Rattle.shore_search.proofs.judging.list_marked.Given as goal

abbrev pub invariant-loop-v : goal.invariant-loop-v
invariant-loop-v l = l.vertices.items ≡ vertices_where (λ v. slice_index_or l.marks v false) l.v
