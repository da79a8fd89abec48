use Rattle.std.proofs.Common.{[], refl, arith}
use Rattle.deadhead_paths.proofs.examples.a_cheapest_walk.Goals as goal

pub returns-clause-detour : goal.returns-clause-detour
returns-clause-detour c = λ cheapest. omega (arith, cheapest [] refl refl)
