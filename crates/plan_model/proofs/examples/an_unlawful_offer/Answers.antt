use Rattle.std.proofs.Common.{refl, ap, arith}
use Rattle.plan_model.specs.Offers.{Tally}
use Rattle.plan_model.proofs.SmallPlans.{a_stray_is_unlawful}
use Rattle.plan_model.proofs.examples.an_unlawful_offer.Goals as goal

pub returns-clause-foul : goal.returns-clause-foul
returns-clause-foul c = (λ lawful. absurd (a_stray_is_unlawful lawful), λ _. refl)

pub returns-clause-not_lawful : goal.returns-clause-not_lawful
returns-clause-not_lawful c = λ after. omega (arith, ap (λ (t : Tally). t.fouls) (after.1 a_stray_is_unlawful))
