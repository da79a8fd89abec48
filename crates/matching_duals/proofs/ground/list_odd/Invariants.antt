use Rattle.std.proofs.Common.{◌≡◌, ◌-◌}
use Rattle.edge_components.specs.Listing.{vertices_where}
use Rattle.matching_duals.specs.OddSets.{is_odd}
use Rattle.matching_duals.proofs.ground.list_odd.Given as goal

abbrev pub invariant-loop-v : goal.invariant-loop-v
invariant-loop-v l = l.odd.items ≡ vertices_where (is_odd l.net) (l.v - 1)
