use Rattle.matching_duals.proofs.Paying.{plan_makes_even, join_is_bound}
use Rattle.matching_duals.proofs.laws.plans_pay_joins.Goals as goal

pub returns-clause-even : goal.returns-clause-even
returns-clause-even c = λ p plan valid lawful.
    plan_makes_even c.need_is_met.ensures.sets c.deadheads_are_on_crossing_edges.ensures p plan valid lawful

pub returns-clause-bound : goal.returns-clause-bound
returns-clause-bound c = join_is_bound c.need_is_met.ensures.sets c.deadheads_are_on_crossing_edges.ensures c.required_edges_are_served_once.ensures.by_edge
