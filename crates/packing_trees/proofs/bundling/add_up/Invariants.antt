use Rattle.std.proofs.Common.{◌≡◌, ℕ, ◌-◌, ◌*◌, ◌≤◌, ◌<◌, length, slice_index}
use Rattle.packing_trees.specs.Tables.{weight_to}
use Rattle.packing_trees.proofs.bundling.add_up.Given as goal

abbrev pub invariant-loop-edge : goal.invariant-loop-edge
invariant-loop-edge l = record {
  so_far : (k : ℕ) → k < length l.weights → slice_index l.weights k ≡ weight_to l.inst l.labels (l.edge - 1) k;
  small : (k : ℕ) → k < length l.weights → slice_index l.weights k ≤ 30000 * (l.edge - 1);
}
