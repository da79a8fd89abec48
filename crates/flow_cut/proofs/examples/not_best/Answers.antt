use Rattle.std.proofs.Common.{◌≤◌, arith, refl}
use Rattle.flow_cut.specs.Examples.{first_two}
use Rattle.flow_cut.proofs.Row.{row_flow}
use Rattle.flow_cut.proofs.examples.not_best.Goals as goal

pub returns-clause-not_greatest : goal.returns-clause-not_greatest
returns-clause-not_greatest c = λ best. let above : 2 ≤ 1 = best.greatest 2 _ row_flow in omega arith

pub returns-clause-not_least : goal.returns-clause-not_least
returns-clause-not_least c = λ best. let above : 3 ≤ 2 = best.least first_two (record { source = refl; target = refl }) in omega arith
