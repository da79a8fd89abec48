use Rattle.ruin_recreate.specs.Annealing.{IsSequenceOn}
use Rattle.ruin_recreate.proofs.sequences.Sequence.read.Given as goal

abbrev pub invariant-loop-to : goal.invariant-loop-to
invariant-loop-to l = IsSequenceOn l.board.width l.self
