use Rattle.branch_rules.proofs.TreeBound.{value_law, price_law}
use Rattle.branch_rules.proofs.laws.prices_bound.Goals as goal

pub returns-clause-below : goal.returns-clause-below
returns-clause-below c = λ p pool branch set plan fits is. value_law (record {
  served_once = c.required_edges_are_served_once.ensures.by_number;
  need_is_met = c.need_is_met.ensures.sets;
  is_tour = c.walks_are_task_tours.ensures.tour;
  there = c.least_prices_are_there.ensures.tasks;
  below = c.walks_are_task_tours.ensures.least;
  chains = record { joins = c.yes_pairs_join.ensures; distinct = c.distinct_edges_sum_to_no_more.ensures };
}) p pool branch set plan fits is

pub returns-clause-bound : goal.returns-clause-bound
returns-clause-bound c = λ p pool branch set bound plan fits above is. price_law (record {
  served_once = c.required_edges_are_served_once.ensures.by_number;
  need_is_met = c.need_is_met.ensures.sets;
  is_tour = c.walks_are_task_tours.ensures.tour;
  there = c.least_prices_are_there.ensures.tasks;
  below = c.walks_are_task_tours.ensures.least;
  chains = record { joins = c.yes_pairs_join.ensures; distinct = c.distinct_edges_sum_to_no_more.ensures };
}) p pool branch set plan fits is bound above
