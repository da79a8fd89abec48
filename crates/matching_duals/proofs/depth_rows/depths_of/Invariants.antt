use Rattle.matching_duals.proofs.Rows.{DepthsTo}
use Rattle.matching_duals.proofs.depth_rows.depths_of.Given as goal

abbrev pub invariant-loop-x : goal.invariant-loop-x
invariant-loop-x l = DepthsTo l.inst l.table l.enclosing l.members l.weight l.x l.depths.items
