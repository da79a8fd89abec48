use Rattle.decision_chains.specs.Choosing.{IsFilled}
use Rattle.decision_chains.proofs.directing.fill.Given as goal

abbrev pub invariant-loop-i : goal.invariant-loop-i
invariant-loop-i l = IsFilled l.inst l.edges l.lefts l.i
