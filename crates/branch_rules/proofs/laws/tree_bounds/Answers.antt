use Rattle.branch_rules.proofs.TreeBound.{tree_bounds_law}
use Rattle.branch_rules.proofs.laws.tree_bounds.Goals as goal

pub returns : goal.returns
returns c = tree_bounds_law (record {
  served_once = c.required_edges_are_served_once.ensures.by_number;
  need_is_met = c.need_is_met.ensures.sets;
  is_tour = c.walks_are_task_tours.ensures.tour;
  there = c.least_prices_are_there.ensures.tasks;
  below = c.walks_are_task_tours.ensures.least;
  chains = record { joins = c.yes_pairs_join.ensures; distinct = c.distinct_edges_sum_to_no_more.ensures };
})
