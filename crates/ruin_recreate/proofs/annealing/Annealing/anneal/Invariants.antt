use Rattle.std.proofs.Common.{◌≤◌}
use Rattle.ruin_recreate.specs.Annealing.{IsAnnealingOn}
use Rattle.ruin_recreate.proofs.annealing.Annealing.anneal.Given as goal

abbrev pub invariant-loop-step : goal.invariant-loop-step
invariant-loop-step l = record { annealing : IsAnnealingOn l.board.width l.self; few : l.lawful ≤ l.step }
