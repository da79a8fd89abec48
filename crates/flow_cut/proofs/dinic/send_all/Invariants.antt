use Rattle.std.proofs.Common.{◌≡◌, ◌+◌, ◌-◌, length}
use Rattle.flow_cut.specs.Residual.{Brings, total_room}
use Rattle.flow_cut.proofs.Least.{IsSearched}
use Rattle.flow_cut.proofs.dinic.send_all.Given as goal

abbrev pub invariant-loop-ends : goal.invariant-loop-ends
invariant-loop-ends l = record {
  brings : Brings l.arcs l.ends.source l.ends.target l.value l.flows;
  searched : IsSearched l.arcs l.flows l.ends.nodes l.ends.source l.ends.target l.layers.level.items l.layers.via.items;
  untried_len : length l.untried ≡ l.ends.nodes + 1;
}

abbrev pub decreases-loop-ends : goal.decreases-loop-ends
decreases-loop-ends l = total_room l.arcs - l.value
