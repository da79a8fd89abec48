use Rattle.tree_transfer.proofs.CarriedTrees.{tree_shows}
use Rattle.tree_transfer.proofs.carried_laws.carried_trees_show.Goals as goal

pub returns : goal.returns
returns c =
    tree_shows c.yes_pairs_join.ensures c.excluded_is_symmetric.ensures c.decisions_keep_exclusions.ensures.excluded c.decisions_keep_exclusions.ensures.light
    c.raised_needs_are_no_less.ensures c.raised_sets_stay_fit.ensures.fit c.raised_fixed_values_are_no_less.ensures c.raised_rooms_are_no_more.ensures.weights
