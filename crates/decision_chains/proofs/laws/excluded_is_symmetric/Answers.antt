use Rattle.decision_chains.proofs.Symmetry.{excluded_turn}
use Rattle.decision_chains.proofs.laws.excluded_is_symmetric.Goals as goal

pub returns : goal.returns
returns c = excluded_turn
