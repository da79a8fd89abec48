use Rattle.decision_chains.proofs.FixedSums.{values_compare, value_unique}
use Rattle.decision_chains.proofs.plan_laws.fixed_values_compare.Goals as goal

pub returns-clause-compare : goal.returns-clause-compare
returns-clause-compare c = values_compare c.yes_pairs_join.ensures

pub returns-clause-unique : goal.returns-clause-unique
returns-clause-unique c = value_unique c.yes_pairs_join.ensures
