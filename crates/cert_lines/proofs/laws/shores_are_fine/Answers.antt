use Rattle.cert_lines.proofs.FineShores.{shore_is_fine}
use Rattle.cert_lines.proofs.laws.shores_are_fine.Goals as goal

pub returns : goal.returns
returns c = shore_is_fine
