use Rattle.std.proofs.Common.{◌≡◌, ◌-◌}
use Rattle.edge_components.specs.Labels.{marked_shores}
use Rattle.edge_components.proofs.listing.list_marked.Given as goal

abbrev pub invariant-loop-r : goal.invariant-loop-r
invariant-loop-r l = l.shores.items ≡ marked_shores l.labels l.marks l.inst.vertices (l.r - 1)
