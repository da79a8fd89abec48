use Rattle.std.proofs.Common.{◌≡◌, ℕ, ◌<◌, ◌≤◌, slice_index}
use Rattle.packing_trees.specs.Tables.{merged}
use Rattle.packing_trees.proofs.bundling.relabel.Given as goal

abbrev pub invariant-loop-i : goal.invariant-loop-i
invariant-loop-i l = record {
  done : (k : ℕ) → k < l.i → slice_index l.labels k ≡ merged l.to l.from (slice_index l.fn.labels k);
  rest : (k : ℕ) → l.i ≤ k → slice_index l.labels k ≡ slice_index l.fn.labels k;
}
