use Rattle.cert_lines.proofs.Fine.{fine_spellable}
use Rattle.cert_lines.proofs.laws.fine_is_spellable.Goals as goal

pub returns : goal.returns
returns c = fine_spellable
