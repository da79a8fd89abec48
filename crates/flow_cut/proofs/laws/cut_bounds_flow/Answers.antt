use Rattle.flow_cut.proofs.Cuts.{cut_bounds}
use Rattle.flow_cut.proofs.laws.cut_bounds_flow.Goals as goal

pub returns : goal.returns
returns c = λ arcs s t value flows side flow cut. cut_bounds arcs s t value flows side flow cut
