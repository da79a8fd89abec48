use Rattle.ruin_recreate.specs.Annealing.{IsSequenceOn}
use Rattle.ruin_recreate.proofs.sequences.Sequence.rest.Given as goal

abbrev pub invariant-loop-connection : goal.invariant-loop-connection
invariant-loop-connection l = IsSequenceOn l.board.width l.self
