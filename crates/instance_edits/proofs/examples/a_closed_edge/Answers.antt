use Rattle.std.proofs.Common.{refl, arith}
use Rattle.instance_edits.proofs.examples.a_closed_edge.Goals as goal

pub returns-clause-closed : goal.returns-clause-closed
returns-clause-closed c = (2, omega arith, refl)
