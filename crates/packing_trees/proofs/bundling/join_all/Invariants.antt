use Rattle.std.proofs.Common.{take}
use Rattle.packing_trees.specs.Tables.{AreLabels}
use Rattle.packing_trees.proofs.bundling.join_all.Given as goal

abbrev pub invariant-loop-choice : goal.invariant-loop-choice
invariant-loop-choice l = AreLabels (take l.choice-index l.branch) l.labels
