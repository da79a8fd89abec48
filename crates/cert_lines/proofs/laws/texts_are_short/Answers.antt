use Rattle.cert_lines.proofs.Lengths.{text_short, spelled_short}
use Rattle.cert_lines.proofs.laws.texts_are_short.Goals as goal

pub returns-clause-text : goal.returns-clause-text
returns-clause-text c = text_short

pub returns-clause-spelling : goal.returns-clause-spelling
returns-clause-spelling c = spelled_short
