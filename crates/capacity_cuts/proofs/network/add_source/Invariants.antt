use Rattle.std.proofs.Common.{◌≡◌, ◌++◌}
use Rattle.capacity_cuts.specs.Network.{source_arcs}
use Rattle.capacity_cuts.proofs.network.add_source.Given as goal

abbrev pub invariant-loop-i : goal.invariant-loop-i
invariant-loop-i l = l.arcs.items ≡ l.fn.arcs.items ++ source_arcs l.inst l.unit l.i
