use Rattle.branch_rules.proofs.SmallTrees.{row_neighbours, row_neighbours_turned, row_apart, row_apart_turned}
use Rattle.branch_rules.proofs.examples.decisions_of_a_plan.Goals as goal

pub returns-clause-yes : goal.returns-clause-yes
returns-clause-yes c = row_neighbours_turned

pub returns-clause-no : goal.returns-clause-no
returns-clause-no c = λ apart. apart row_neighbours

pub returns-clause-both : goal.returns-clause-both
returns-clause-both c = (row_apart, (row_apart_turned, tt))
