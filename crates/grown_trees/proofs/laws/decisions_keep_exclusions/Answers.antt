use Rattle.grown_trees.proofs.Keeping.{excluded_kept}
use Rattle.grown_trees.proofs.Light.{light_kept}
use Rattle.grown_trees.proofs.laws.decisions_keep_exclusions.Goals as goal

pub returns : goal.returns
returns c = record { excluded = excluded_kept c.yes_pairs_join.ensures c.excluded_is_symmetric.ensures; light = light_kept c.yes_pairs_join.ensures c.excluded_is_symmetric.ensures }
