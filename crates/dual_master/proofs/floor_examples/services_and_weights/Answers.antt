use Rattle.dual_master.proofs.SmallNumbers.{negative_weight}
use Rattle.dual_master.proofs.floor_examples.services_and_weights.Goals as goal

pub returns-clause-negative : goal.returns-clause-negative
returns-clause-negative c = negative_weight
