use Rattle.std.proofs.Common.{lit<, pos, refl}
use Rattle.cert_lines.specs.Examples.{on_shore}
use Rattle.cert_lines.proofs.examples.what_agrees.Goals as goal

pub returns-clause-no_weight : goal.returns-clause-no_weight
returns-clause-no_weight c agrees = agrees.some 0 (on_shore 1 (pos 1)) (lit< tt) refl
