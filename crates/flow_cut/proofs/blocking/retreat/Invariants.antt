use Rattle.std.proofs.Common.{◌≡◌, ◌≢◌, ◌≤◌, ◌⊎◌, slice_index}
use Rattle.flow_cut.proofs.blocking.retreat.Given as goal

abbrev pub invariant-loop-v : goal.invariant-loop-v
invariant-loop-v l = record {
  reached : slice_index l.layers.level.items l.v ≢ 0;
  same : l.untried ≡ l.fn.untried;
  spent : (l.v ≡ l.from) ⊎ (slice_index l.untried l.v ≤ slice_index l.adjacency.starts.items l.v);
}

abbrev pub decreases-loop-v : goal.decreases-loop-v
decreases-loop-v l = slice_index l.layers.level.items l.v
