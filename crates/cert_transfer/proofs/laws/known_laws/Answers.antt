use Rattle.cert_transfer.proofs.laws.known_laws.Goals as goal

pub returns : goal.returns
returns c = record {
  raise = c.edits_raise_instances.ensures;
  light = c.raised_sets_stay_fit.ensures.deadheads;
  trees = c.carried_trees_show.ensures;
  tours = c.plans_are_tours.ensures.tours;
  edges = c.plans_are_on_edges.ensures;
  costs = c.short_plans_cost_little.ensures;
  bounds = c.tree_bounds.ensures;
  spelled = c.fine_is_spellable.ensures;
  fine = c.spellable_is_fine.ensures;
  counts = c.counts_are_in_range.ensures;
}
