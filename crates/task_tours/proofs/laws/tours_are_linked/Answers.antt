use Rattle.task_tours.proofs.Deadheads.{tours_there, tours_unique}
use Rattle.task_tours.proofs.Linking.{stands_linked, small_cost}
use Rattle.task_tours.proofs.laws.tours_are_linked.Goals as goal

pub returns-clause-linked : goal.returns-clause-linked
returns-clause-linked c = λ p valid q a b from to. stands_linked p valid c.least_prices_are_there.ensures.tasks q a b from to

pub returns-clause-small : goal.returns-clause-small
returns-clause-small c = small_cost c.least_prices_are_there.ensures.few_steps

pub returns-clause-there : goal.returns-clause-there
returns-clause-there c = tours_there c.least_prices_are_there.ensures.tasks

pub returns-clause-unique : goal.returns-clause-unique
returns-clause-unique c = tours_unique
