use Rattle.std.proofs.Common.{◌≤◌, [], refl, arith}
use Rattle.plan_model.specs.Plans.{IsLawful}
use Rattle.giant_split.specs.Examples.{idle_town}
use Rattle.giant_split.proofs.examples.what_is_cheapest_in_an_order.Goals as goal

no_tours : IsLawful idle_town []
no_tours = record { walks = tt; once = λ e required. absurd (omega (arith, required.from_one, required.in_range)) }

pub returns-clause-detour : goal.returns-clause-detour
returns-clause-detour c = λ cheapest. let less : 10 ≤ 0 = cheapest [] no_tours refl in omega (arith, less)
