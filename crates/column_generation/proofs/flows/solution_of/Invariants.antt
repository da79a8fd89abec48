use Rattle.std.proofs.Common.{◌≡◌}
use Rattle.column_generation.proofs.flows.solution_of.Given as goal

abbrev pub invariant-loop-place : goal.invariant-loop-place
invariant-loop-place l = l.flow.services ≡ l.inst.required
