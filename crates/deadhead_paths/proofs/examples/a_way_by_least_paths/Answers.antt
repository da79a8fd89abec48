use Rattle.std.proofs.Common.{[], arith}
use Rattle.deadhead_paths.proofs.examples.a_way_by_least_paths.Goals as goal

pub returns-clause-stays : goal.returns-clause-stays
returns-clause-stays c = record {
  price = 0;
  least = record { steps = []; reached = search; least = λ n other d. omega arith };
  deadheads = search;
  fewest = λ other d. omega arith;
  short = omega arith;
}

pub returns-clause-round : goal.returns-clause-round
returns-clause-round c = λ goes. omega (arith, goes.short)
