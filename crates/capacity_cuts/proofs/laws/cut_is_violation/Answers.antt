use Rattle.capacity_cuts.proofs.Cuts.{cut_law}
use Rattle.capacity_cuts.proofs.laws.cut_is_violation.Goals as goal

pub returns : goal.returns
returns c = cut_law
