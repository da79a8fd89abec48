use Rattle.decision_chains.specs.Choosing.{IsUnderway}
use Rattle.decision_chains.proofs.directing.follow.Given as goal

abbrev pub invariant-loop-i : goal.invariant-loop-i
invariant-loop-i l = IsUnderway l.inst l.edges l.i l.at l.tasks.items
