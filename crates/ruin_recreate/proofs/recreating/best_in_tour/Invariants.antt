use Rattle.std.proofs.Common.{◌≤◌, ◌^◌}
use Rattle.ruin_recreate.proofs.recreating.best_in_tour.Given as goal

abbrev pub invariant-loop-place : goal.invariant-loop-place
invariant-loop-place l = l.best.cost ≤ 2 ^ 40
