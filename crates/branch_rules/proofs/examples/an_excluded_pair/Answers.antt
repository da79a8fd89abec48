use Rattle.branch_rules.proofs.SmallTrees.{full_now, ends_now, row_heavy, row_free}
use Rattle.branch_rules.proofs.examples.an_excluded_pair.Goals as goal

pub returns-clause-full : goal.returns-clause-full
returns-clause-full c = full_now

pub returns-clause-ends : goal.returns-clause-ends
returns-clause-ends c = ends_now c.yes_pairs_join.ensures

pub returns-clause-heavy : goal.returns-clause-heavy
returns-clause-heavy c = row_heavy

pub returns-clause-free : goal.returns-clause-free
returns-clause-free c = row_free c.distinct_edges_sum_to_no_more.ensures
