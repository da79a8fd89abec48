use Rattle.edge_components.proofs.Kept.{kept_law, roots_law}
use Rattle.edge_components.proofs.laws.kept_labels_are_components.Goals as goal

pub returns-clause-components : goal.returns-clause-components
returns-clause-components c = λ p x least labels test kept valid are are_kept. kept_law p x least labels valid are test kept are_kept

pub returns-clause-roots : goal.returns-clause-roots
returns-clause-roots c = roots_law
