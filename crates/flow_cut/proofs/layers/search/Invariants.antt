use Rattle.std.proofs.Common.{◌≤◌, ◌+◌, ◌-◌, length}
use Rattle.flow_cut.specs.Layers.{IsPending, IsLayerSearch}
use Rattle.flow_cut.proofs.layers.search.Given as goal

abbrev pub invariant-loop-place : goal.invariant-loop-place
invariant-loop-place l = record {
  search : IsLayerSearch l.arcs l.flows l.ends.nodes l.ends.source l.layers.level.items l.layers.via.items l.queue.items;
  pending : IsPending l.arcs l.flows l.layers.level.items l.queue.items l.place;
  in_queue : l.place ≤ length l.queue.items;
}

abbrev pub decreases-loop-place : goal.decreases-loop-place
decreases-loop-place l = l.ends.nodes + 1 - l.place
