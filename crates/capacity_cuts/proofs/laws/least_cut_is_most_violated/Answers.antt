use Rattle.capacity_cuts.proofs.Least.{least_law}
use Rattle.capacity_cuts.proofs.laws.least_cut_is_most_violated.Goals as goal

pub returns : goal.returns
returns c = least_law c.equal_sets_have_one_border.ensures
