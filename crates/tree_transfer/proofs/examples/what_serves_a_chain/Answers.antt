use Rattle.tree_transfer.proofs.SmallStreets.{not_free, not_less, served}
use Rattle.tree_transfer.proofs.examples.what_serves_a_chain.Goals as goal

pub returns-clause-cost : goal.returns-clause-cost
returns-clause-cost c = served

pub returns-clause-none : goal.returns-clause-none
returns-clause-none c = not_free

pub returns-clause-free : goal.returns-clause-free
returns-clause-free c = not_less
