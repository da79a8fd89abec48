use Rattle.branch_rules.proofs.SmallTrees.{row_neighbours, row_neighbours_turned, row_apart}
use Rattle.branch_rules.proofs.examples.neighbours_in_a_plan.Goals as goal

pub returns-clause-one_after_the_other : goal.returns-clause-one_after_the_other
returns-clause-one_after_the_other c = row_neighbours

pub returns-clause-turned : goal.returns-clause-turned
returns-clause-turned c = row_neighbours_turned

pub returns-clause-in_other_tours : goal.returns-clause-in_other_tours
returns-clause-in_other_tours c = row_apart
