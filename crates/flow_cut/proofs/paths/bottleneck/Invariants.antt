use Rattle.std.proofs.Common.{◌≢◌, ℕ, ◌≤◌, slice_index}
use Rattle.flow_cut.specs.Layers.{FitsTo, IsOpen}
use Rattle.flow_cut.proofs.paths.bottleneck.Given as goal

abbrev pub invariant-loop-v : goal.invariant-loop-v
invariant-loop-v l = record {
  reached : slice_index l.layers.level.items l.v ≢ 0;
  fits : (x : ℕ) → x ≤ l.least → FitsTo l.arcs l.flows l.layers.level.items l.layers.via.items x l.v → FitsTo l.arcs l.flows l.layers.level.items l.layers.via.items x l.ends.target;
  some : IsOpen l.arcs l.flows l.ends.source l.layers.level.items l.layers.via.items → 1 ≤ l.least;
}

abbrev pub decreases-loop-v : goal.decreases-loop-v
decreases-loop-v l = slice_index l.layers.level.items l.v
