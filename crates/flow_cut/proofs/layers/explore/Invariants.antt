use Rattle.std.proofs.Common.{slice_index}
use Rattle.flow_cut.proofs.Searching.{IsExploring}
use Rattle.flow_cut.proofs.layers.explore.Given as goal

abbrev pub invariant-loop-k : goal.invariant-loop-k
invariant-loop-k l =
    IsExploring l.arcs l.flows l.ends.nodes l.ends.source l.adjacency.list.items (slice_index l.adjacency.starts.items l.v) l.k
    l.fn.layers.level.items l.fn.queue.items l.layers.level.items l.layers.via.items l.queue.items
