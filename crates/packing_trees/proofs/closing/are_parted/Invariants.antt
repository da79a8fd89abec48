use Rattle.std.proofs.Common.{ℕ, ◌<◌}
use Rattle.std.specs.Prelude.{slice_index_or}
use Rattle.packing_trees.specs.declared.node.PackChoice.{PackChoice}
use Rattle.packing_trees.specs.Tables.{PartsLabels}
use Rattle.packing_trees.proofs.closing.are_parted.Given as goal

abbrev pub invariant-loop-choice : goal.invariant-loop-choice
invariant-loop-choice l = (k : ℕ) (d : PackChoice) → k < l.choice-index → ¬ (PartsLabels l.labels (slice_index_or l.branch k d) l.one l.other)
