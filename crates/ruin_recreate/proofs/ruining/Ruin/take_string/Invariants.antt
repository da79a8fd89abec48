use Rattle.ruin_recreate.specs.Annealing.{IsRuinOn}
use Rattle.ruin_recreate.proofs.ruining.Ruin.take_string.Given as goal

abbrev pub invariant-loop-place : goal.invariant-loop-place
invariant-loop-place l = IsRuinOn l.board.width l.self
