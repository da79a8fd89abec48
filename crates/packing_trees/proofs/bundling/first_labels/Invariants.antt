use Rattle.std.proofs.Common.{◌≡◌, length, []}
use Rattle.packing_trees.specs.Tables.{AreLabels}
use Rattle.packing_trees.proofs.bundling.first_labels.Given as goal

abbrev pub invariant-loop-edge : goal.invariant-loop-edge
invariant-loop-edge l = record {
  long : length l.labels.items ≡ l.edge;
  own : AreLabels [] l.labels.items;
}
