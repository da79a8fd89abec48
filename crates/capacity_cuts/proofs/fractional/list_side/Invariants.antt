use Rattle.std.proofs.Common.{◌≡◌}
use Rattle.flow_cut.specs.Flows.{is_on}
use Rattle.edge_components.specs.Listing.{vertices_where}
use Rattle.capacity_cuts.proofs.fractional.list_side.Given as goal

abbrev pub invariant-loop-v : goal.invariant-loop-v
invariant-loop-v l = l.vertices.items ≡ vertices_where (is_on l.side) l.v
