use Rattle.std.proofs.Common.{refl, ap, arith}
use Rattle.plan_model.specs.Offers.{Tally}
use Rattle.plan_model.proofs.SmallPlans.{nothing_is_lawful}
use Rattle.plan_model.proofs.examples.a_lawful_offer.Goals as goal

pub returns-clause-lawful : goal.returns-clause-lawful
returns-clause-lawful c = (λ _. refl, λ unlawful. absurd (unlawful nothing_is_lawful))

pub returns-clause-no_foul : goal.returns-clause-no_foul
returns-clause-no_foul c = λ after. omega (arith, ap (λ (t : Tally). t.fouls) (after.0 nothing_is_lawful))
