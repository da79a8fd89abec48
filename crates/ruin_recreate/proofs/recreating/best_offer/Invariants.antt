use Rattle.std.proofs.Common.{◌≤◌, ◌^◌}
use Rattle.ruin_recreate.proofs.recreating.best_offer.Given as goal

abbrev pub invariant-loop-tour : goal.invariant-loop-tour
invariant-loop-tour l = l.best.cost ≤ 2 ^ 40
