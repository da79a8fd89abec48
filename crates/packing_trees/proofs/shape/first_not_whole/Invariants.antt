use Rattle.std.proofs.Common.{ℕ, ◌+◌, ◌≤◌, drop}
use Rattle.packing_trees.specs.Layers.{Fills}
use Rattle.packing_trees.specs.Reasons.{NotWholeAt}
use Rattle.packing_trees.proofs.shape.first_not_whole.Given as goal

abbrev pub invariant-loop-i : goal.invariant-loop-i
invariant-loop-i l = record {
  few : l.subtrees ≤ l.i + 1;
  fails : (place : ℕ) → NotWholeAt l.subtrees l.i (drop l.i l.nodes) place → NotWholeAt 1 0 l.nodes place;
  fills : Fills l.subtrees (drop l.i l.nodes) → Fills 1 l.nodes;
}
