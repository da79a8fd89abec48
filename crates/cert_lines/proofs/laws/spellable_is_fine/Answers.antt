use Rattle.cert_lines.proofs.Spellable.{spellable_fine}
use Rattle.cert_lines.proofs.laws.spellable_is_fine.Goals as goal

pub returns : goal.returns
returns c = spellable_fine
