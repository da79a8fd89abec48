use Rattle.ruin_recreate.specs.Annealing.{IsSequenceOn}
use Rattle.ruin_recreate.proofs.sequences.Sequence.scatter.Given as goal

abbrev pub invariant-loop-edge : goal.invariant-loop-edge
invariant-loop-edge l = IsSequenceOn l.board.width l.self
