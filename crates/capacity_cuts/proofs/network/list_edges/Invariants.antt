use Rattle.std.proofs.Common.{◌≡◌}
use Rattle.capacity_cuts.specs.Network.{edge_arcs}
use Rattle.capacity_cuts.proofs.network.list_edges.Given as goal

abbrev pub invariant-loop-i : goal.invariant-loop-i
invariant-loop-i l = l.arcs.items ≡ edge_arcs l.inst l.unit l.x l.i
