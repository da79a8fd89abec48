use Rattle.tree_transfer.proofs.StandIns.{stands_in}
use Rattle.tree_transfer.proofs.naming.named_sets_suffice.Goals as goal

pub returns : goal.returns
returns c sup new before after tree spelled noted named = stands_in sup new before after tree spelled noted named
