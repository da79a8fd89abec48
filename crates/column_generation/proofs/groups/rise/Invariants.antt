use Rattle.std.proofs.Common.{◌<◌, ◌+◌, ℕ, slice_index}
use Rattle.column_generation.proofs.groups.rise.Given as goal

abbrev pub invariant-loop-place : goal.invariant-loop-place
invariant-loop-place l = (k : ℕ) → k + 1 < l.place → slice_index l.edges k < slice_index l.edges (k + 1)
