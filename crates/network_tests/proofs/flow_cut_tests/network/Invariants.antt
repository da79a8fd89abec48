use Rattle.std.proofs.Common.{◌≡◌, length}
use Rattle.std.specs.List.{All}
use Rattle.flow_cut.specs.Flows.{HasEnds, HasFineRoom}
use Rattle.network_tests.proofs.flow_cut_tests.network.Given as goal

abbrev pub invariant-loop-place : goal.invariant-loop-place
invariant-loop-place l = record {
  long : length l.arcs.items ≡ l.place;
  ends : All (HasEnds l.nodes) l.arcs.items;
  rooms : All HasFineRoom l.arcs.items;
}
