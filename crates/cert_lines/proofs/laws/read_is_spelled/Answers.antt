use Rattle.cert_lines.proofs.InOrder.{read_spellable, read_spelled}
use Rattle.cert_lines.proofs.laws.read_is_spelled.Goals as goal

pub returns-clause-spellable : goal.returns-clause-spellable
returns-clause-spellable c = read_spellable

pub returns-clause-spelled : goal.returns-clause-spelled
returns-clause-spelled c = read_spelled
