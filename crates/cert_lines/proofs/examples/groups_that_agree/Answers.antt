use Rattle.std.proofs.Common.{lit<, refl, arith}
use Rattle.std.proofs.lemmas.Int.{ints}
use Rattle.branch_rules.specs.Prices.{no_group}
use Rattle.cert_lines.proofs.examples.groups_that_agree.Goals as goal

pub returns-clause-falling : goal.returns-clause-falling
returns-clause-falling c agrees = omega (arith, (agrees.0.in_order 0 no_group (lit< tt)).rising 0 (lit< tt))

pub returns-clause-no_weight : goal.returns-clause-no_weight
returns-clause-no_weight c agrees = (agrees.0.in_order 0 no_group (lit< tt)).some refl

pub returns-clause-negative_on_three : goal.returns-clause-negative_on_three
returns-clause-negative_on_three c agrees = omega (arith, (agrees.0.in_order 0 no_group (lit< tt)).pair (omega (arith, ints)))
