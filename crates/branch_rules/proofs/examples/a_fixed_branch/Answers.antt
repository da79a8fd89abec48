use Rattle.std.proofs.Common.{[], arith}
use Rattle.deadhead_paths.specs.Examples.{town}
use Rattle.branch_rules.specs.Examples.{town_plan}
use Rattle.branch_rules.proofs.Small.{town_is_fixed, town_value}
use Rattle.branch_rules.proofs.SmallTrees.{crossed_now, town_lawful, town_spelt, free_pair}
use Rattle.branch_rules.proofs.examples.a_fixed_branch.Goals as goal

pub returns-clause-one_edge : goal.returns-clause-one_edge
returns-clause-one_edge c = town_is_fixed c.distinct_edges_sum_to_no_more.ensures

pub returns-clause-void : goal.returns-clause-void
returns-clause-void c = λ fixed. fixed.open_yet crossed_now

pub returns-clause-open_pair : goal.returns-clause-open_pair
returns-clause-open_pair c = λ fixed. free_pair c.distinct_edges_sum_to_no_more.ensures (fixed.settled 1 2 (record { from_one = omega arith; in_range = omega arith }) (record { from_one = omega arith; in_range = omega arith }))

pub returns-clause-value : goal.returns-clause-value
returns-clause-value c = town_value

pub returns-clause-dearer : goal.returns-clause-dearer
returns-clause-dearer c = λ value. omega (arith, c.fixed_value_bounds.ensures.spelt town [] 13 town_plan town_lawful town_spelt value)
