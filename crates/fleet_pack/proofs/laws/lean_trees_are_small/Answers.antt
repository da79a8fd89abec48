use Rattle.fleet_pack.proofs.FewTurns.{few_turns}
use Rattle.fleet_pack.proofs.laws.lean_trees_are_small.Goals as goal

pub returns : goal.returns
returns c = few_turns
