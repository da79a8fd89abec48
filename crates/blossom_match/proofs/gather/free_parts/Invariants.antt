use Rattle.blossom_match.specs.Ways.{on_cycle}
use Rattle.blossom_match.proofs.Gathering.{AreFreed}
use Rattle.blossom_match.proofs.gather.free_parts.Given as goal

abbrev pub invariant-loop-s : goal.invariant-loop-s
invariant-loop-s l = AreFreed l.fn.label l.label (on_cycle l.one l.other l.join.one l.join.other) l.s
