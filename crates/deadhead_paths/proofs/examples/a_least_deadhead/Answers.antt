use Rattle.std.proofs.Common.{refl, arith}
use Rattle.deadhead_paths.proofs.Small.{no_way, no_way_there, some_price, way_back}
use Rattle.deadhead_paths.proofs.examples.a_least_deadhead.Goals as goal

pub returns-clause-way_back : goal.returns-clause-way_back
returns-clause-way_back c = (0, 5, no_way, way_back, refl)

pub returns-clause-free : goal.returns-clause-free
returns-clause-free c = λ (k, m, there, home, sum). omega (arith, some_price m home.steps home.reached, sum)

pub returns-clause-same_way_twice : goal.returns-clause-same_way_twice
returns-clause-same_way_twice c = (0, 10, no_way, (5, 5, way_back, way_back, refl), refl)

pub returns-clause-to_and_fro : goal.returns-clause-to_and_fro
returns-clause-to_and_fro c = (0, 0, no_way, (0, 0, no_way_there, no_way, refl), refl)

pub returns-clause-not_both : goal.returns-clause-not_both
returns-clause-not_both c = λ (k, n, first, (l, m, second, last, rest), sum).
    omega (
      arith,
      sum,
      rest,
      first.least 0 no_way.steps no_way.reached,
      second.least 0 no_way_there.steps no_way_there.reached,
      last.least 0 no_way.steps no_way.reached,
    )
