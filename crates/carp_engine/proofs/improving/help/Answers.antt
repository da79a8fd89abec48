use Rattle.std.proofs.Common.{arith}
use Rattle.carp_engine.proofs.improving.help.Goals as goal

pub returns-clause-rounds : goal.returns-clause-rounds
returns-clause-rounds g c = record {
  start = c.in_ok-plan.plan;
  tidied = c.in_ok-plan.ensures;
  best = c.ask_all.new.best;
  rounds = c.in_ok-ask_all.ensures.rounds;
  no_dearer = omega arith;
}

pub returns-clause-no_dearer : goal.returns-clause-no_dearer
returns-clause-no_dearer g c = omega (arith, c.ask_all.ensures.no_dearer, c.in_ok-plan.ensures.cost)
