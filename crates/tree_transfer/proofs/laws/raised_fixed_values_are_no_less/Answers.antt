use Rattle.tree_transfer.proofs.FixedRising.{fixed_rises}
use Rattle.tree_transfer.proofs.laws.raised_fixed_values_are_no_less.Goals as goal

pub returns : goal.returns
returns c = fixed_rises c.fixed_values_compare.ensures.compare
