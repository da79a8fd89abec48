use Rattle.std.proofs.Common.{arith}
use Rattle.branch_rules.proofs.Small.{town_is_fixed, town_value}
use Rattle.branch_rules.proofs.SmallTrees.{crossed_now, town_shows, town_shows_above}
use Rattle.branch_rules.proofs.examples.a_tree_that_shows_a_bound.Goals as goal

pub returns-clause-prices : goal.returns-clause-prices
returns-clause-prices c = town_shows

pub returns-clause-fixed_leaf : goal.returns-clause-fixed_leaf
returns-clause-fixed_leaf c = record { settled = town_is_fixed c.distinct_edges_sum_to_no_more.ensures; value = 12; fixed = town_value; enough = omega arith }

pub returns-clause-split : goal.returns-clause-split
returns-clause-split c = (crossed_now, town_shows_above)

pub returns-clause-nodes : goal.returns-clause-nodes
returns-clause-nodes c = (town_shows, tt)
