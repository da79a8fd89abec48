use Rattle.std.proofs.Common.{arith, refl}
use Rattle.decision_chains.proofs.examples.the_next_edge.Goals as goal

pub returns-clause-alone : goal.returns-clause-alone
returns-clause-alone c = λ z is. cc

pub returns-clause-not_the_end : goal.returns-clause-not_the_end
returns-clause-not_the_end c = λ only. omega (arith, only 3 refl)

pub returns-clause-not_back : goal.returns-clause-not_back
returns-clause-not_back c = λ leads. leads.1 refl

pub returns-clause-no_yes : goal.returns-clause-no_yes
returns-clause-no_yes c = λ leads. cc (leads.0)
