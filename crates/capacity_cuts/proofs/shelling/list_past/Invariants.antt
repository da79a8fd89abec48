use Rattle.std.proofs.Common.{◌≡◌, ◌-◌}
use Rattle.edge_components.specs.Listing.{vertices_where}
use Rattle.capacity_cuts.specs.Lengths.{is_past}
use Rattle.capacity_cuts.proofs.shelling.list_past.Given as goal

abbrev pub invariant-loop-v : goal.invariant-loop-v
invariant-loop-v l = l.vertices.items ≡ vertices_where (is_past l.lengths l.level) (l.v - 1)
