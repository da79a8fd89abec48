use Rattle.dual_master.proofs.Packed.{packing_law}
use Rattle.dual_master.proofs.floor_laws.packing_weights_fit.Goals as goal

pub returns : goal.returns
returns c = packing_law
