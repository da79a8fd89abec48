use Rattle.std.proofs.Common.{◌≡◌, take}
use Rattle.matching_duals.specs.Sets.{depth_by}
use Rattle.matching_duals.proofs.depth_rows.depth_of.Given as goal

abbrev pub invariant-loop-i : goal.invariant-loop-i
invariant-loop-i l = l.least ≡ depth_by l.table l.start l.enclosing l.weight (take l.i l.members)
