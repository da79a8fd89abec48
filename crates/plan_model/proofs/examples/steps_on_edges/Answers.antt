use Rattle.std.proofs.Common.{arith}
use Rattle.plan_model.specs.Examples.{second_step}
use Rattle.plan_model.proofs.examples.steps_on_edges.Goals as goal

pub returns-clause-off : goal.returns-clause-off
returns-clause-off c = λ each. omega (arith, (each 0 second_step (omega arith)).in_range)
