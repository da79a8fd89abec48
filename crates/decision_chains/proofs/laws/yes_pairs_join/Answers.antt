use Rattle.decision_chains.proofs.YesPairs.{yes_pairs_law}
use Rattle.decision_chains.proofs.laws.yes_pairs_join.Goals as goal

pub returns : goal.returns
returns c = yes_pairs_law
