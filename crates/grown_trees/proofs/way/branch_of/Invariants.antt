use Rattle.std.proofs.Common.{◌≡◌, take}
use Rattle.grown_trees.proofs.way.branch_of.Given as goal

abbrev pub invariant-loop-decision : goal.invariant-loop-decision
invariant-loop-decision l = l.branch ≡ take l.decision-index l.decisions
