use Rattle.std.proofs.Common.{◌≢◌, ◌≤◌, IfNone, IfSome, slice_index}
use Rattle.flow_cut.specs.Residual.{Brings}
use Rattle.flow_cut.specs.Layers.{IsLayered, IsUntried}
use Rattle.flow_cut.proofs.Trying.{to_turn}
use Rattle.flow_cut.proofs.blocking.block.Given as goal

abbrev pub invariant-loop-at : goal.invariant-loop-at
invariant-loop-at l = record {
  brings : Brings l.arcs l.ends.source l.ends.target l.value l.flows;
  rises : l.fn.value ≤ l.value;
  layered : IsLayered l.arcs l.ends.nodes l.ends.source l.layers.level.items l.layers.via.items;
  untried : IsUntried l.ends.nodes l.adjacency.starts.items l.untried;
  spent : IfNone l.at (slice_index l.untried l.ends.source ≤ slice_index l.adjacency.starts.items l.ends.source);
  reached : IfSome l.at (λ v. slice_index l.layers.level.items v ≢ 0);
}

abbrev pub decreases-loop-at : goal.decreases-loop-at
decreases-loop-at l = to_turn l.ends.nodes l.layers.level.items l.untried l.at
