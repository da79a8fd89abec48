use Rattle.flow_cut.proofs.Cuts.{equal_best}
use Rattle.flow_cut.proofs.laws.equal_is_best.Goals as goal

pub returns : goal.returns
returns c = λ arcs s t value flows side flow cut same. equal_best arcs s t value flows side flow cut same
