use Rattle.edge_components.proofs.Borders.{border_law}
use Rattle.edge_components.proofs.laws.equal_sets_have_one_border.Goals as goal

pub returns : goal.returns
returns c = border_law
