use Rattle.tree_transfer.proofs.Edited.{edits_raise}
use Rattle.tree_transfer.proofs.laws.edits_raise_instances.Goals as goal

pub returns : goal.returns
returns c = edits_raise
