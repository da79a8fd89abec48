use Rattle.cert_format.proofs.Bounds.{good_proves}
use Rattle.cert_format.proofs.laws.good_is_proof.Goals as goal

pub returns : goal.returns
returns c = good_proves c.tree_bounds.ensures
