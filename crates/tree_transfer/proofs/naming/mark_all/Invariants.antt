use Rattle.std.proofs.Common.{length, take}
use Rattle.tree_transfer.specs.Naming.{AreMarked}
use Rattle.tree_transfer.proofs.naming.mark_all.Given as goal

abbrev pub invariant-loop-entry : goal.invariant-loop-entry
invariant-loop-entry l = AreMarked (take l.entry-index l.nodes) (length l.fn.marks) l.marks
