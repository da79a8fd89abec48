use Rattle.std.proofs.Common.{[], arith}
use Rattle.plan_model.proofs.SmallPlans.{nothing_is_lawful}
use Rattle.plan_model.proofs.examples.a_lower_bound.Goals as goal

pub returns-clause-one : goal.returns-clause-one
returns-clause-one c = λ bound. omega (arith, bound [] nothing_is_lawful)
