use Rattle.ruin_recreate.specs.Annealing.{AreOn}
use Rattle.ruin_recreate.proofs.ordering.sort.Given as goal

abbrev pub invariant-loop-i : goal.invariant-loop-i
invariant-loop-i l = AreOn l.board.width l.removed
