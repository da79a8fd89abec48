use Rattle.std.proofs.Common.{length}
use Rattle.blossom_match.specs.Ways.{IsMarking, unmarked}
use Rattle.blossom_match.proofs.ways.mark.Given as goal

abbrev pub invariant-loop-node : goal.invariant-loop-node
invariant-loop-node l = IsMarking l.top l.entry (length l.entry) l.from l.root l.way l.node l.steps

abbrev pub decreases-loop-node : goal.decreases-loop-node
decreases-loop-node l = unmarked (length l.entry) l.way
