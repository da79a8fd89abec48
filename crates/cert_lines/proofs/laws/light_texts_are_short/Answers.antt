use Rattle.cert_lines.proofs.LightLengths.{light_short}
use Rattle.cert_lines.proofs.laws.light_texts_are_short.Goals as goal

pub returns : goal.returns
returns c = light_short
