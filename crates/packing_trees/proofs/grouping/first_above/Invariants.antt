use Rattle.std.proofs.Common.{ℕ, ◌<◌, ◌≤◌, slice_index}
use Rattle.packing_trees.proofs.grouping.first_above.Given as goal

abbrev pub invariant-loop-group : goal.invariant-loop-group
invariant-loop-group l = (g : ℕ) → 1 ≤ g → g < l.group → slice_index l.loads g ≤ l.capacity
