use Rattle.ruin_recreate.specs.Annealing.{IsRuinOn}
use Rattle.ruin_recreate.proofs.ruining.Ruin.take_out.Given as goal

abbrev pub invariant-loop-edge : goal.invariant-loop-edge
invariant-loop-edge l = IsRuinOn l.board.width l.self
