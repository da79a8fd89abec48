use Rattle.std.proofs.Common.{refl}
use Rattle.route_pricing.proofs.Twins.{adds_nothing}
use Rattle.route_pricing.proofs.examples.prices_that_add_nothing.Goals as goal

pub returns-clause-free : goal.returns-clause-free
returns-clause-free c = record { services = λ e is. adds_nothing e is.from_one is.in_range; pairs = λ e f _ _. refl }
