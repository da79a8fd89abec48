use Rattle.dual_master.proofs.Growing.{growth_law}
use Rattle.dual_master.proofs.laws.growth_keeps_sets.Goals as goal

pub returns : goal.returns
returns c = growth_law
