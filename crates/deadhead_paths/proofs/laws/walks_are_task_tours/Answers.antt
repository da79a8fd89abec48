use Rattle.deadhead_paths.proofs.TaskTours.{least_cost_of, walk_above, walk_tour}
use Rattle.deadhead_paths.proofs.laws.walks_are_task_tours.Goals as goal

pub returns-clause-tour : goal.returns-clause-tour
returns-clause-tour c = walk_tour

pub returns-clause-least : goal.returns-clause-least
returns-clause-least c = walk_above

pub returns-clause-cost : goal.returns-clause-cost
returns-clause-cost c = least_cost_of
