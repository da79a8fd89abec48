use Rattle.std.proofs.Common.{[]}
use Rattle.branch_rules.proofs.Small.{town_fits}
use Rattle.branch_rules.proofs.examples.a_price_set.Goals as goal

pub returns-clause-fits : goal.returns-clause-fits
returns-clause-fits c = town_fits []
