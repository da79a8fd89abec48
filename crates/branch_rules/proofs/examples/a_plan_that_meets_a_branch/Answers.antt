use Rattle.branch_rules.proofs.SmallTrees.{row_neighbours, town_spelt}
use Rattle.branch_rules.proofs.examples.a_plan_that_meets_a_branch.Goals as goal

pub returns-clause-spells : goal.returns-clause-spells
returns-clause-spells c = town_spelt

pub returns-clause-another : goal.returns-clause-another
returns-clause-another c = λ spelt. cc (spelt.only_yes 1 2 row_neighbours)
