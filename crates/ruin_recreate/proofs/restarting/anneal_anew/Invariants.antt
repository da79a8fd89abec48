use Rattle.ruin_recreate.specs.Annealing.{IsAnnealingOn}
use Rattle.ruin_recreate.proofs.restarting.anneal_anew.Given as goal

abbrev pub invariant-loop : goal.invariant-loop
invariant-loop l = IsAnnealingOn l.board.width l.annealing
