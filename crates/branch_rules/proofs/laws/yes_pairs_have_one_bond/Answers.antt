use Rattle.branch_rules.proofs.Together.{one_bond}
use Rattle.branch_rules.proofs.laws.yes_pairs_have_one_bond.Goals as goal

pub returns : goal.returns
returns c = λ p pool branch group plan valid lawful meets is.
    one_bond (record { joins = c.yes_pairs_join.ensures; distinct = c.distinct_edges_sum_to_no_more.ensures }) p pool branch plan meets valid c.required_edges_are_served_once.ensures.by_number lawful group is
