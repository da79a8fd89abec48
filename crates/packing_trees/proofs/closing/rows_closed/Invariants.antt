use Rattle.std.proofs.Common.{◌≡◌, ℕ, ◌<◌, ◌≤◌, length, slice_index}
use Rattle.packing_trees.specs.Tables.{RowIsClosed}
use Rattle.packing_trees.proofs.closing.rows_closed.Given as goal

abbrev pub invariant-loop-edge : goal.invariant-loop-edge
invariant-loop-edge l = record {
  closed : (one : ℕ) → 1 ≤ one → one < l.edge → slice_index l.labels one ≡ one → RowIsClosed l.capacity l.labels l.weights l.branch one;
  clear : (k : ℕ) → k < length l.labels → slice_index l.marks k < l.edge;
}
