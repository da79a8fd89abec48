use Rattle.decision_chains.specs.ChainWalks.{IsOnWay, unmarked}
use Rattle.decision_chains.proofs.ordering.walk.Given as goal

abbrev pub invariant-loop-edges : goal.invariant-loop-edges
invariant-loop-edges l = IsOnWay l.chains l.start l.fn.marks l.edges.items l.marks l.before l.at

abbrev pub decreases-loop-edges : goal.decreases-loop-edges
decreases-loop-edges l = unmarked l.marks
