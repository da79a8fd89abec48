use Rattle.tree_transfer.proofs.Needs.{needs_rise}
use Rattle.tree_transfer.proofs.laws.raised_needs_are_no_less.Goals as goal

pub returns : goal.returns
returns c = needs_rise
