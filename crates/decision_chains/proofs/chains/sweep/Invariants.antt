use Rattle.std.proofs.Common.{length, take}
use Rattle.decision_chains.specs.ChainTables.{AreChains}
use Rattle.decision_chains.proofs.chains.sweep.Given as goal

abbrev pub invariant-loop-decision : goal.invariant-loop-decision
invariant-loop-decision l = AreChains (length l.fn.labels) (take l.decision-index l.decisions) l.labels l.near l.tangled
