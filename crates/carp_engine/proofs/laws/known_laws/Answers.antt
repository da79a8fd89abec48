use Rattle.carp_engine.proofs.laws.known_laws.Goals as goal

pub returns : goal.returns
returns c = record {
  trees = c.tree_bounds.ensures;
  lean = c.lean_trees_are_small.ensures;
  counts = c.counts_are_in_range.ensures;
  spelled = c.fine_is_spellable.ensures;
  fine = c.spellable_is_fine.ensures;
  shores = c.shores_are_fine.ensures;
  costs = c.short_plans_cost_little.ensures;
  allowed = c.short_plans_are_allowed.ensures;
  edges = c.plans_are_on_edges.ensures;
  proof = c.good_is_proof.ensures;
  once = c.fixed_values_compare.ensures.unique;
  named = c.named_sets_suffice.ensures;
  turns = c.resumed_trees_have_turns.ensures;
  texts = c.light_texts_are_short.ensures;
}
