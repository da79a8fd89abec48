use Rattle.decision_chains.proofs.Covering.{covered}
use Rattle.decision_chains.proofs.laws.distinct_edges_sum_to_no_more.Goals as goal

pub returns : goal.returns
returns c = covered
