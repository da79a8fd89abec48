use Rattle.std.proofs.Common.{refl}
use Rattle.packing_trees.specs.Examples.{split_pair}
use Rattle.packing_trees.proofs.examples.a_reason_of_the_tree.Goals as goal

pub returns-clause-tree : goal.returns-clause-tree
returns-clause-tree c = (split_pair, refl)
