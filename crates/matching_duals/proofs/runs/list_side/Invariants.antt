use Rattle.std.proofs.Common.{◌≡◌, ◌-◌}
use Rattle.edge_components.specs.Listing.{vertices_where}
use Rattle.matching_duals.specs.Levels.{on_side}
use Rattle.matching_duals.proofs.runs.list_side.Given as goal

abbrev pub invariant-loop-v : goal.invariant-loop-v
invariant-loop-v l = l.side.items ≡ vertices_where (on_side l.depths l.level l.depot) (l.v - 1)
