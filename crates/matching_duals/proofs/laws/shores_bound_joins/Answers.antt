use Rattle.matching_duals.proofs.Duality.{counts_pay}
use Rattle.matching_duals.proofs.laws.shores_bound_joins.Goals as goal

pub returns : goal.returns
returns c = counts_pay
