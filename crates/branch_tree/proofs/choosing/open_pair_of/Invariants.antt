use Rattle.branch_tree.specs.Splits.{IsSettledBelow}
use Rattle.branch_tree.proofs.choosing.open_pair_of.Given as goal

abbrev pub invariant-loop-b : goal.invariant-loop-b
invariant-loop-b l = IsSettledBelow l.fn.inst l.fn.branch l.fn.a l.b
