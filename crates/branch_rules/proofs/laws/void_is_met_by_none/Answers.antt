use Rattle.branch_rules.proofs.TreeBound.{void_met_law}
use Rattle.branch_rules.proofs.laws.void_is_met_by_none.Goals as goal

pub returns : goal.returns
returns c = void_met_law (record { joins = c.yes_pairs_join.ensures; distinct = c.distinct_edges_sum_to_no_more.ensures }) c.need_is_met.ensures.sets
