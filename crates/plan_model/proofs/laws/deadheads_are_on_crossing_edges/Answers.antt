use Rattle.plan_model.proofs.Crossings.{deadheads_by_edge}
use Rattle.plan_model.proofs.laws.deadheads_are_on_crossing_edges.Goals as goal

pub returns : goal.returns
returns c = deadheads_by_edge
