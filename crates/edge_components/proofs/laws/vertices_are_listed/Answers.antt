use Rattle.edge_components.proofs.Listed.{listed_law}
use Rattle.edge_components.proofs.laws.vertices_are_listed.Goals as goal

pub returns : goal.returns
returns c = listed_law
