use Rattle.branch_rules.proofs.Weighing.{surcharge_apart, surcharge_turned, surcharges_are}
use Rattle.branch_rules.proofs.laws.surcharges_are_bond_weights.Goals as goal

pub returns-clause-sum : goal.returns-clause-sum
returns-clause-sum c = surcharges_are

pub returns-clause-symmetric : goal.returns-clause-symmetric
returns-clause-symmetric c = surcharge_turned

pub returns-clause-apart : goal.returns-clause-apart
returns-clause-apart c = surcharge_apart
