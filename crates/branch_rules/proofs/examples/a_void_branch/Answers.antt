use Rattle.branch_rules.specs.Decisions.{heavy_chain}
use Rattle.branch_rules.proofs.Small.{town_is_not_void}
use Rattle.branch_rules.proofs.SmallTrees.{crossed_now, three_now, cycle_now, row_chain_heavy}
use Rattle.branch_rules.proofs.examples.a_void_branch.Goals as goal

pub returns-clause-three : goal.returns-clause-three
returns-clause-three c = three_now

pub returns-clause-cycle : goal.returns-clause-cycle
returns-clause-cycle c = cycle_now

pub returns-clause-heavy : goal.returns-clause-heavy
returns-clause-heavy c = heavy_chain 1 row_chain_heavy

pub returns-clause-crossed : goal.returns-clause-crossed
returns-clause-crossed c = crossed_now

pub returns-clause-none : goal.returns-clause-none
returns-clause-none c = town_is_not_void c.distinct_edges_sum_to_no_more.ensures
