use Rattle.tree_transfer.proofs.SmallStreets.{raised_itself, renumbered}
use Rattle.tree_transfer.proofs.examples.an_instance_that_is_raised.Goals as goal

pub returns-clause-itself : goal.returns-clause-itself
returns-clause-itself c = raised_itself

pub returns-clause-renumbered : goal.returns-clause-renumbered
returns-clause-renumbered c = renumbered
