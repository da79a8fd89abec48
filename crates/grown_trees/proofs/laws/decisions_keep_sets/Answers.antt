use Rattle.grown_trees.proofs.Keeping.{decisions_keep}
use Rattle.grown_trees.proofs.laws.decisions_keep_sets.Goals as goal

pub returns : goal.returns
returns c = decisions_keep c.yes_pairs_join.ensures c.excluded_is_symmetric.ensures
