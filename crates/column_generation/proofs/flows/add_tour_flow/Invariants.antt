use Rattle.std.proofs.Common.{◌≡◌}
use Rattle.column_generation.proofs.flows.add_tour_flow.Given as goal

abbrev pub invariant-loop-task : goal.invariant-loop-task
invariant-loop-task l = l.flow.services ≡ l.initial.flow.services
