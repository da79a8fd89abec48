use Rattle.capacity_cuts.proofs.Limits.{network_law}
use Rattle.capacity_cuts.proofs.laws.network_is_fine.Goals as goal

pub returns : goal.returns
returns c = network_law
