use Rattle.packing_trees.proofs.Ordering.{none, once}
use Rattle.packing_trees.proofs.laws.pack_answers_are_exact.Goals as goal

pub returns-clause-good : goal.returns-clause-good
returns-clause-good c = λ p claim reason good. none p claim good reason

pub returns-clause-unique : goal.returns-clause-unique
returns-clause-unique c = once
