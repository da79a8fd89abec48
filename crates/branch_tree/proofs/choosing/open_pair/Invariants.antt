use Rattle.branch_tree.specs.Splits.{AreSettledBelow}
use Rattle.branch_tree.proofs.choosing.open_pair.Given as goal

abbrev pub invariant-loop-a : goal.invariant-loop-a
invariant-loop-a l = AreSettledBelow l.fn.inst l.fn.branch l.a
