use Rattle.std.proofs.Common.{ℕ, ◌<◌, get_or}
use Rattle.decision_chains.specs.ChainTables.{IsNoOut, TakesExcluded}
use Rattle.decision_chains.specs.declared.decision.Decision.{Decision}
use Rattle.decision_chains.proofs.chains.Chains.take_out_said.Given as goal

abbrev pub invariant-loop-decision : goal.invariant-loop-decision
invariant-loop-decision l = record {
  takes : TakesExcluded l.self.inst.now l.self.decisions.now l.fn.allowed l.allowed;
  out : (k : ℕ) (d : Decision) → k < l.decision-index → IsNoOut l.allowed (get_or l.self.decisions.now k d);
}
