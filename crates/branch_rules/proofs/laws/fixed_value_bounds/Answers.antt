use Rattle.branch_rules.proofs.Ruling.{spells_fixed}
use Rattle.branch_rules.proofs.Fixed.{fixed_value_law}
use Rattle.branch_rules.proofs.laws.fixed_value_bounds.Goals as goal

pub returns-clause-spelt : goal.returns-clause-spelt
returns-clause-spelt c = λ p branch value plan lawful spells fixed. fixed_value_law (record { joins = c.yes_pairs_join.ensures; distinct = c.distinct_edges_sum_to_no_more.ensures }) p plan branch lawful spells value fixed c.required_edges_are_served_once.ensures.by_number

pub returns-clause-met : goal.returns-clause-met
returns-clause-met c = λ p pool branch value plan lawful meets settled fixed.
    fixed_value_law (record { joins = c.yes_pairs_join.ensures; distinct = c.distinct_edges_sum_to_no_more.ensures }) p plan branch lawful (spells_fixed (record { joins = c.yes_pairs_join.ensures; distinct = c.distinct_edges_sum_to_no_more.ensures }) p pool plan branch lawful meets settled) value fixed c.required_edges_are_served_once.ensures.by_number
