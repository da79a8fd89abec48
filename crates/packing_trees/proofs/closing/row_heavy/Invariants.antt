use Rattle.std.proofs.Common.{◌≡◌, ℕ, ◌+◌, ◌<◌, slice_index}
use Rattle.packing_trees.proofs.closing.row_heavy.Given as goal

abbrev pub invariant-loop-other : goal.invariant-loop-other
invariant-loop-other l = (k : ℕ) → l.one < k → k < l.other → slice_index l.labels k ≡ k → l.capacity < slice_index l.weights l.one + slice_index l.weights k
