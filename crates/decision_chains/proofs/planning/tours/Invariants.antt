use Rattle.decision_chains.specs.ChainPlans.{IsPartPlan}
use Rattle.decision_chains.proofs.planning.tours.Given as goal

abbrev pub invariant-loop-edge : goal.invariant-loop-edge
invariant-loop-edge l = IsPartPlan l.chains l.edge l.marks l.plan
