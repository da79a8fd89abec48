use Rattle.std.proofs.Common.{◌≡◌, ℕ, ◌<◌, ◌≤◌, ◌↔◌, length, slice_index, take}
use Rattle.packing_trees.specs.Tables.{SomePartsLabels}
use Rattle.packing_trees.proofs.closing.mark_parted.Given as goal

abbrev pub invariant-loop-choice : goal.invariant-loop-choice
invariant-loop-choice l = record {
  marked : (k : ℕ) → k < length l.labels → (slice_index l.marks k ≡ l.one) ↔ SomePartsLabels l.labels (take l.choice-index l.branch) l.one k;
  clear : (k : ℕ) → k < length l.labels → slice_index l.marks k ≤ l.one;
}
