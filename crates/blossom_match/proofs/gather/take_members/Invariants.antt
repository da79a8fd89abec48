use Rattle.blossom_match.specs.Ways.{on_cycle}
use Rattle.blossom_match.proofs.Gathering.{AreTaken}
use Rattle.blossom_match.proofs.gather.take_members.Given as goal

abbrev pub invariant-loop-v : goal.invariant-loop-v
invariant-loop-v l = AreTaken l.fn.top l.top l.fn.held l.held (on_cycle l.one l.other l.join.one l.join.other) l.whole l.size l.v
