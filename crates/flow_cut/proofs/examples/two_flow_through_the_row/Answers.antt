use Rattle.std.proofs.Common.{refl}
use Rattle.flow_cut.proofs.Cuts.{equal_best}
use Rattle.flow_cut.proofs.Row.{row_flow}
use Rattle.flow_cut.proofs.examples.two_flow_through_the_row.Goals as goal

pub returns-clause-flow : goal.returns-clause-flow
returns-clause-flow c = row_flow

pub returns-clause-best : goal.returns-clause-best
returns-clause-best c = equal_best _ _ _ _ _ _ row_flow (record { source = refl; target = refl }) refl
