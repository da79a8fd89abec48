use Rattle.std.proofs.Common.{[], refl}
use Rattle.deadhead_paths.proofs.Finding.{least_or_none, short_least}
use Rattle.deadhead_paths.proofs.TaskTours.{deadhead_there}
use Rattle.deadhead_paths.proofs.laws.least_prices_are_there.Goals as goal

pub returns-clause-found : goal.returns-clause-found
returns-clause-found c = least_or_none

pub returns-clause-few_steps : goal.returns-clause-few_steps
returns-clause-few_steps c = short_least

pub returns-clause-tasks : goal.returns-clause-tasks
returns-clause-tasks c = λ p valid q tasks required. deadhead_there p valid q p.depot (record { steps = []; leads = refl }) tasks required
