use Rattle.cert_format.proofs.PlanEdges.{on_edges}
use Rattle.cert_format.proofs.laws.plans_are_on_edges.Goals as goal

pub returns : goal.returns
returns c = on_edges
